-- Terminals by their nets.
use Rattle.std.proofs.Common.{◌≡◌, ℕ, ◌<◌, ◌≤◌, List, [], ◌∷◌, ◌++◌, length, set, replicate, inl, inr, sym, ap, ◌∙◌, subst, arith}
use Rattle.place_plan.proofs.Vocabulary.{Contains, cases_eq, cases_lt, Terminal, HasTerminal, AreGrouped, list_at, terminal_for}
use Rattle.std.proofs.lemmas.List.{length-set, length-replicate, get_or-replicate, get_or_past}
use Rattle.std.proofs.lemmas.List.Elements.{Contains-push, Contains-push_cases, Contains-append_left}
use Rattle.place_plan.proofs.Spreads.{at_set, at_other}
use Rattle.place_plan.proofs.Those.{not_in_nil}

pub none_grouped : (count : ℕ) → AreGrouped count [] (replicate count [])
none_grouped count = record { sized = length-replicate count []; same = λ k w. (λ has. absurd (not_in_nil w (subst (λ z. Contains z w) (empty k) has)), λ has. absurd (none has.0 has.1)) }
  where
    none : (k : ℕ) → k < 0 → ⊥
    none k lt = omega arith

    empty : (k : ℕ) → list_at (replicate count []) k ≡ []
    empty k = elim (cases_lt k count) [ inl l ↦ get_or-replicate count k [] [] l | inr l ↦ get_or_past (replicate count []) k [] (subst (λ z. z ≤ k) (sym (length-replicate count [])) l) ]

pub more_grouped : (count : ℕ) (ts : List Terminal) (nets : List (List ℕ)) (t : Terminal) → t.net.0 < count → AreGrouped count ts nets → AreGrouped count (ts ++ t ∷ []) (set nets t.net.0 (list_at nets t.net.0 ++ t.wire.0 ∷ []))
more_grouped count ts nets t lt are = record {
  sized = length-set nets t.net.0 (list_at nets t.net.0 ++ t.wire.0 ∷ []) ∙ are.sized;
  same = λ k w. elim (cases_eq k t.net.0) [
    | inl e ↦ (
      λ has. elim (Contains-push_cases (list_at nets t.net.0) t.wire.0 w (subst (λ z. Contains z w) (at_set nets t.net.0 (list_at nets t.net.0 ++ t.wire.0 ∷ []) within) (subst (λ z. HasTerminal (set nets t.net.0 (list_at nets t.net.0 ++ t.wire.0 ∷ [])) z w) e has))) [
        | inl old ↦ Contains-append_left ts (t ∷ []) (terminal_for k w) ((are.same k w).0 (subst (λ z. HasTerminal nets z w) (sym e) old))
        | inr q ↦ subst (Contains (ts ++ t ∷ [])) (pair t k w (sym e) q) (Contains-push ts t)
      ],
      λ has. subst (λ z. HasTerminal (set nets t.net.0 (list_at nets t.net.0 ++ t.wire.0 ∷ [])) z w) (sym e) (subst (λ z. Contains z w) (sym (at_set nets t.net.0 (list_at nets t.net.0 ++ t.wire.0 ∷ []) within)) (elim (Contains-push_cases ts t (terminal_for k w) has) [
        | inl old ↦ Contains-append_left (list_at nets t.net.0) (t.wire.0 ∷ []) w (subst (λ z. HasTerminal nets z w) e ((are.same k w).1 old))
        | inr q ↦ subst (Contains (list_at nets t.net.0 ++ t.wire.0 ∷ [])) (ap (λ z. z.wire.0) q) (Contains-push (list_at nets t.net.0) t.wire.0)
      ])),
    )
    | inr ne ↦ (
      λ has. Contains-append_left ts (t ∷ []) (terminal_for k w) ((are.same k w).0 (subst (λ z. Contains z w) (at_other nets t.net.0 k (list_at nets t.net.0 ++ t.wire.0 ∷ []) ne) has)),
      λ has. subst (λ z. Contains z w) (sym (at_other nets t.net.0 k (list_at nets t.net.0 ++ t.wire.0 ∷ []) ne)) (elim (Contains-push_cases ts t (terminal_for k w) has) [
        | inl old ↦ (are.same k w).1 old
        | inr q ↦ absurd (ne (sym (ap (λ z. z.net.0) q)))
      ]),
    )
  ];
}
  where
    within : t.net.0 < length nets
    within = subst (λ z. t.net.0 < z) (sym are.sized) lt

    pair : (t : Terminal) (k w : ℕ) → t.net.0 ≡ k → t.wire.0 ≡ w → t ≡ terminal_for k w
    pair t k w e f = λ i. terminal_for (e i) (f i)
