-- The picks of a whole list of owners are an assignment.
use Rattle.std.proofs.Common.{◌≡◌, ◌≢◌, ℕ, ◌+◌, ◌<◌, Bool, true, List, [], ◌∷◌, ◌++◌, length, get_or, Option, Some, None, inl, inr, refl, sym, ap, ◌∙◌, subst, arith}
use Rattle.place_plan.proofs.Vocabulary.{AllPairs, Contains, All-push, All-weaker, Contains-get_or, Contains-push, Contains-append_left}
use Rattle.place_plan.proofs.Vocabulary.{all_pairs_push, cases_eq, Hold, IsAssignment, owner_at, line_at, IsPartial, ArePicks}
use Rattle.place_plan.proofs.Moves.{owned_within}

abbrev Is : List ℕ → List (Option ℕ) → ℕ → Hold → Type 0
Is lines os j p = (i : ℕ) × (i < j) × (owner_at os i ≡ Some p.ask) × (line_at lines i ≡ p.line)

abbrev Are : List ℕ → List (Option ℕ) → ℕ → Hold → Hold → Type 0
Are lines os j p q = (i k : ℕ) × (i < k) × (k < j) × (owner_at os i ≡ Some p.ask) × (line_at lines i ≡ p.line) × (owner_at os k ≡ Some q.ask) × (line_at lines k ≡ q.line)

later : (lines : List ℕ) (os : List (Option ℕ)) (j : ℕ) (p : Hold) → Is lines os j p → Is lines os (j + 1) p
later lines os j p is = (is.0, omega (arith, is.1), is.2, is.3)

later_both : (lines : List ℕ) (os : List (Option ℕ)) (ps : List Hold) (j : ℕ) → AllPairs (Are lines os j) ps → AllPairs (Are lines os (j + 1)) ps
later_both lines os ps j are a b d lt l = let r = are a b d lt l in (r.0, r.1, r.2, omega (arith, r.3), r.4, r.5, r.6, r.7)

pub pick_none : (lines : List ℕ) (os : List (Option ℕ)) (ps : List Hold) (j : ℕ) → owner_at os j ≡ None → ArePicks lines os ps j → ArePicks lines os ps (j + 1)
pick_none lines os ps j none are = record {
  only = All-weaker (Is lines os j) (Is lines os (j + 1)) (later lines os j) ps are.only;
  each = λ i n lt e. elim (cases_eq i j) [ inl q ↦ (let f : owner_at os i ≡ owner_at os j = ap (owner_at os) q in let g : Some n ≡ None = sym e ∙ f ∙ none in cc) | inr ne ↦ are.each i n (omega arith) e ];
  places = later_both lines os ps j are.places;
}

pub pick_some : (lines : List ℕ) (os : List (Option ℕ)) (ps : List Hold) (j n : ℕ) → owner_at os j ≡ Some n → ArePicks lines os ps j → ArePicks lines os (ps ++ record { ask = n; line = line_at lines j } ∷ []) (j + 1)
pick_some lines os ps j n had are = record {
  only = All-push (Is lines os (j + 1)) ps x (All-weaker (Is lines os j) (Is lines os (j + 1)) (later lines os j) ps are.only) (j, omega arith, had, refl);
  each = λ i m lt e. elim (cases_eq i j) [
    | inl q ↦ (let f : owner_at os i ≡ owner_at os j = ap (owner_at os) q in let g : n ≡ m = cc in subst (λ k. Contains (ps ++ x ∷ []) (record { ask = m; line = line_at lines k })) (sym q) (subst (λ z. Contains (ps ++ x ∷ []) (record { ask = z; line = line_at lines j })) g (Contains-push ps x)))
    | inr ne ↦ Contains-append_left ps (x ∷ []) (record { ask = m; line = line_at lines i }) (are.each i m (omega arith) e)
  ];
  places = all_pairs_push (Are lines os (j + 1)) ps x (later_both lines os ps j are.places) (λ k d l. let o = are.only k d l in (o.0, j, o.1, omega arith, o.2, o.3, had, refl));
}
  where
    x : Hold
    x = record { ask = n; line = line_at lines j }

pub picked : (serves : ℕ → ℕ → Bool) (nets lines : List ℕ) (os : List (Option ℕ)) (ps : List Hold) → IsPartial serves lines nets os → AllPairs (λ w v. w ≢ v) lines → ArePicks lines os ps (length lines) → IsAssignment serves nets lines ps
picked serves nets lines os ps is apart are = record {
  given = All-weaker (λ n. (j : ℕ) × (owner_at os j ≡ Some n)) (λ n. (w : ℕ) × Contains ps (record { ask = n; line = w })) (λ n h. (line_at lines h.0, are.each h.0 n (within h.0 n h.1) h.1)) nets is.has;
  each = All-weaker (Is lines os (length lines)) (λ p. Contains nets p.ask × Contains lines p.line × (serves p.ask p.line ≡ true)) (λ p o. ((is.serving o.0 p.ask o.2).1, subst (Contains lines) o.3 (Contains-get_or lines o.0 0 o.1), subst (λ w. serves p.ask w ≡ true) o.3 (is.serving o.0 p.ask o.2).0)) ps are.only;
  nets_apart = λ a b d lt l e. let r = are.places a b d lt l in different r.0 r.1 r.2 (is.apart r.0 r.1 (get_or ps b d).ask (r.4 ∙ ap Some e) r.6);
  lines_apart = λ a b d lt l e. let r = are.places a b d lt l in apart r.0 r.1 0 r.2 r.3 (r.5 ∙ e ∙ sym r.7);
}
  where
    within : (j n : ℕ) → owner_at os j ≡ Some n → j < length lines
    within j n e = subst (λ z. j < z) is.sized (owned_within os j n e)

    different : (i k : ℕ) → i < k → i ≡ k → ⊥
    different i k lt e = omega arith
