-- The places of wires, where one more is known.
use Rattle.std.proofs.Common.{◌≡◌, ◌≢◌, ◌⊎◌, ℕ, ◌*◌, ◌<◌, ◌≤◌, Bool, true, false, Some, None, Option, List, [], ◌∷◌, ◌++◌, ◌||◌, length, refl, sym, ap, ◌∙◌, subst, inl, inr, arith, set, get_or, slice_get, replicate, IfNone, is_some, if◌then◌else◌, ◌==◌}
use Rattle.std.proofs.lemmas.List.{get_or-set_same, get_or-set_other, get_or-replicate, get_or_past, length-replicate, length-set, length-append}
use Rattle.std.specs.List.{count_by}
use Rattle.diag_known.proofs.Vocabulary.{sum_by-set, count_by-le-length, sum_by-replicate, nat_tests, false≢true, has_number, wires_of}
use Rattle.diag_known.proofs.Vocabulary.{mark_set, no_mark, KnownWires, IsAt, HasWire, rank_in, AreRanks, VerifiedWire}
use native.Mathlib.Decide.{dec_lt, ℕ_discrete}
use Rattle.diag_known.specs.declared.known.Known.TheInside.{Inside}
use Rattle.diag_known.proofs.Places.{get_before, get_last, get_pushed, some_same}

-- these are the places of these wires
pub record AreRanksOf (ranks : List (Option ℕ)) (ss : List VerifiedWire) : Type 0 where
  pub right : (w i : ℕ) → rank_in ranks w ≡ Some i → IsAt ss i w
  pub whole : (w i : ℕ) → IsAt ss i w → rank_in ranks w ≡ Some i

pub no_ranks : (n : ℕ) → AreRanksOf (replicate n None) []
no_ranks n = record {
  right = λ w i e. absurd (none_is w i e);
  whole = λ w i at. absurd (let h : None ≡ Some at.step = at.here in cc);
}
  where
    none_is : (w i : ℕ) → rank_in (replicate n None) w ≡ Some i → ⊥
    none_is w i e = by_place (dec_lt w n)
      where
        by_place : Dec (w < n) → ⊥
        by_place (yes h) = let s : get_or {A = Option ℕ} (replicate n None) w None ≡ None = get_or-replicate n w None None h in cc
        by_place (no h) = let s : get_or {A = Option ℕ} (replicate n None) w None ≡ None = get_or_past (replicate n None) w None (rw length-replicate (omega arith)) in cc

module _ (ranks : List (Option ℕ)) (ss : List VerifiedWire) (s : VerifiedWire) (are : AreRanksOf ranks ss) (wide : s.wire.0 < length ranks) (new : ¬ HasWire ss s.wire.0) where
  pub rank_learnt : rank_in (set ranks s.wire.0 (Some (length ss))) s.wire.0 ≡ Some (length ss)
  rank_learnt = get_or-set_same ranks s.wire.0 (Some (length ss)) None wide

  other_rank : (w : ℕ) → w ≢ s.wire.0 → rank_in (set ranks s.wire.0 (Some (length ss))) w ≡ rank_in ranks w
  other_rank w n = get_or-set_other ranks s.wire.0 w (Some (length ss)) None n

  last_at : IsAt (ss ++ s ∷ []) (length ss) s.wire.0
  last_at = record { step = s; here = get_last ss s; wire = refl }

  right_then : (w i : ℕ) → rank_in (set ranks s.wire.0 (Some (length ss))) w ≡ Some i → IsAt (ss ++ s ∷ []) i w
  right_then w i e = by_wire (ℕ_discrete w s.wire.0)
    where
      by_wire : Dec (w ≡ s.wire.0) → IsAt (ss ++ s ∷ []) i w
      by_wire (yes same) =
          let place : length ss ≡ i = some_same (sym rank_learnt ∙ ap (rank_in (set ranks s.wire.0 (Some (length ss)))) (sym same) ∙ e) in
          subst (λ v. IsAt (ss ++ s ∷ []) i v) (sym same) (subst (λ j. IsAt (ss ++ s ∷ []) j s.wire.0) place last_at)
      by_wire (no n) = let at = are.right w i (sym (other_rank w n) ∙ e) in record { step = at.step; here = get_before ss (s ∷ []) i at.step at.here; wire = at.wire }

  whole_then : (w i : ℕ) → IsAt (ss ++ s ∷ []) i w → rank_in (set ranks s.wire.0 (Some (length ss))) w ≡ Some i
  whole_then w i at = by_place (get_pushed ss s i at.step at.here)
    where
      by_place : (slice_get ss i ≡ Some at.step) ⊎ ((i ≡ length ss) × (s ≡ at.step)) → rank_in (set ranks s.wire.0 (Some (length ss))) w ≡ Some i
      by_place (inl h) =
          let before : IsAt ss i w = record { step = at.step; here = h; wire = at.wire } in
          other_rank w (λ e. new (record { place = i; at = subst (IsAt ss i) e before })) ∙ are.whole w i before
      by_place (inr h) =
          let same : s.wire.0 ≡ w = ap (λ (t : VerifiedWire). t.wire.0) h.1 ∙ at.wire in
          ap (rank_in (set ranks s.wire.0 (Some (length ss)))) (sym same) ∙ rank_learnt ∙ ap Some (sym h.0)

  pub ranks_learnt : AreRanksOf (set ranks s.wire.0 (Some (length ss))) (ss ++ s ∷ [])
  ranks_learnt = record { right = right_then; whole = whole_then }

-- the same of what is kept
of_inside : (a : Inside) → AreRanks a → AreRanksOf a.ranks.items a.steps.items
of_inside a r = record { right = r.right; whole = r.whole }

pub has_rank : (a : Inside) → AreRanks a → (w : ℕ) → HasWire a.steps.items w → w < length a.ranks.items
has_rank a r w h = by_place (dec_lt w (length a.ranks.items))
  where
    is : rank_in a.ranks.items w ≡ Some h.place
    is = r.whole w h.place h.at

    by_place : Dec (w < length a.ranks.items) → w < length a.ranks.items
    by_place (yes low) = low
    by_place (no high) = absurd (let past : get_or {A = Option ℕ} a.ranks.items w None ≡ None = get_or_past a.ranks.items w None (omega (arith, high)) in let there = is in cc)

pub no_rank : (a : Inside) → AreRanks a → (w : ℕ) (known : KnownWires) → record { shape = a.shape; steps = a.steps.items } ≡ known → w < length a.ranks.items →
    (o : Option ℕ) → o ≡ get_or a.ranks.items w o → IfNone o (¬ HasWire known.steps w)
no_rank a r w known e within (Some i) is = tt
no_rank a r w known e within None is =
    λ h. let at : HasWire a.steps.items w = subst (λ (k : KnownWires). HasWire k.steps w) (sym e) h in
    let some : rank_in a.ranks.items w ≡ Some at.place = r.whole w at.place at.at in cc

pub ranks_same : (a b : Inside) → AreRanks a → b.shape ≡ a.shape → b.ranks.items ≡ a.ranks.items → b.steps.items ≡ a.steps.items → b.wires ≡ a.wires → AreRanks b
ranks_same a b r shape ranks steps wires = record {
  wide = ap length ranks ∙ r.wide ∙ ap wires_of (sym shape);
  right = same.right;
  whole = same.whole;
  counted = ap (count_by is_some) ranks ∙ r.counted ∙ ap length (sym steps);
  marks = ap length wires ∙ r.marks ∙ ap wires_of (sym shape);
  marked = λ w. ap (λ (ws : List Bool). has_number ws w) wires ∙ r.marked w ∙ ap (λ (ns : List (Option ℕ)). is_some (rank_in ns w)) (sym ranks);
}
  where
    same : AreRanksOf b.ranks.items b.steps.items
    same = subst (λ ss. AreRanksOf b.ranks.items ss) (sym steps) (subst (λ ns. AreRanksOf ns a.steps.items) (sym ranks) (of_inside a r))

pub ranks_then : (a b : Inside) → AreRanks a → (s : VerifiedWire) → s.wire.0 < length a.ranks.items → ¬ HasWire a.steps.items s.wire.0 →
    b.shape ≡ a.shape → b.steps.items ≡ a.steps.items ++ s ∷ [] → (n : ℕ) → n ≡ length a.steps.items → b.ranks.items ≡ set a.ranks.items s.wire.0 (Some n) → b.wires ≡ set a.wires s.wire.0 true → AreRanks b
ranks_then a b r s within new shape steps n len ranks wires = record {
  wide = ap length ranks ∙ length-set a.ranks.items s.wire.0 (Some n) ∙ r.wide ∙ ap wires_of (sym shape);
  right = next.right;
  whole = next.whole;
  counted = ap (count_by is_some) ranks ∙ one_more ∙ ap length (sym steps);
  marks = ap length wires ∙ length-set a.wires s.wire.0 true ∙ r.marks ∙ ap wires_of (sym shape);
  marked = λ w. ap (λ (ws : List Bool). has_number ws w) wires ∙ mark_set a.wires s.wire.0 w marked_within ∙ by_wire w (ℕ_discrete w s.wire.0) ∙ ap (λ (ns : List (Option ℕ)). is_some (rank_in ns w)) (sym ranks);
}
  where
    marked_within : s.wire.0 < length a.wires
    marked_within = let wide = r.wide in let marks = r.marks in omega (arith, within, wide, marks)

    by_wire : (w : ℕ) → Dec (w ≡ s.wire.0) → ((s.wire.0 == w) || has_number a.wires w) ≡ is_some (rank_in (set a.ranks.items s.wire.0 (Some n)) w)
    by_wire w (yes e) =
        let on : (s.wire.0 == w) ≡ true = grind (arith, nat_tests, e) in
        ap (λ t. t || has_number a.wires w) on ∙ sym (ap (λ v. is_some (rank_in (set a.ranks.items s.wire.0 (Some n)) v)) e ∙ ap is_some (get_or-set_same a.ranks.items s.wire.0 (Some n) None within))
    by_wire w (no other) =
        let off : (s.wire.0 == w) ≡ false = grind (arith, nat_tests, other) in
        ap (λ t. t || has_number a.wires w) off ∙ r.marked w ∙ sym (ap is_some (get_or-set_other a.ranks.items s.wire.0 w (Some n) None other))

    unranked : get_or {A = Option ℕ} a.ranks.items s.wire.0 None ≡ None
    unranked = by_rank (rank_in a.ranks.items s.wire.0) refl
      where
        by_rank : (o : Option ℕ) → rank_in a.ranks.items s.wire.0 ≡ o → o ≡ None
        by_rank None e = refl
        by_rank (Some i) e = absurd (new (record { place = i; at = r.right s.wire.0 i e }))

    one_more : count_by is_some (set a.ranks.items s.wire.0 (Some n)) ≡ length (a.steps.items ++ s ∷ [])
    one_more =
        let counts = sum_by-set (λ (o : Option ℕ). if is_some o then 1 else 0) a.ranks.items s.wire.0 (Some n) None within in
        let none : ◌≡◌ {A = ℕ} (if is_some (get_or {A = Option ℕ} a.ranks.items s.wire.0 None) then 1 else 0) 0 = ap (λ (o : Option ℕ). if is_some o then 1 else 0) unranked in
        let long = length-append a.steps.items (s ∷ []) in
        let before = r.counted in
        omega (arith, counts, none, long, before)

    then_ranks : b.ranks.items ≡ set a.ranks.items s.wire.0 (Some (length a.steps.items))
    then_ranks = ranks ∙ ap (λ m. set a.ranks.items s.wire.0 (Some m)) len

    next : AreRanksOf b.ranks.items b.steps.items
    next = subst (λ ss. AreRanksOf b.ranks.items ss) (sym steps)
        (subst (λ ns. AreRanksOf ns (a.steps.items ++ s ∷ [])) (sym then_ranks) (ranks_learnt a.ranks.items a.steps.items s (of_inside a r) within new))

pub ranks_none : (a : Inside) → a.ranks.items ≡ replicate (wires_of a.shape) None → a.steps.items ≡ [] → a.wires ≡ replicate (wires_of a.shape) false → AreRanks a
ranks_none a ranks steps wires = record {
  wide = ap length ranks ∙ length-replicate (wires_of a.shape) None;
  right = none.right;
  whole = none.whole;
  counted = ap (count_by is_some) ranks ∙ sum_by-replicate (λ (o : Option ℕ). if is_some o then 1 else 0) (wires_of a.shape) None ∙ zero_times ∙ ap length (sym steps);
  marks = ap length wires ∙ length-replicate (wires_of a.shape) false;
  marked = λ w. ap (λ (ws : List Bool). has_number ws w) wires ∙ no_mark (wires_of a.shape) w ∙ sym (ap is_some (unranked w));
}
  where
    none : AreRanksOf a.ranks.items a.steps.items
    none = subst (λ ss. AreRanksOf a.ranks.items ss) (sym steps) (subst (λ ns. AreRanksOf ns []) (sym ranks) (no_ranks (wires_of a.shape)))

    unranked : (w : ℕ) → rank_in a.ranks.items w ≡ None
    unranked w = by_rank (rank_in a.ranks.items w) refl
      where
        by_rank : (o : Option ℕ) → rank_in a.ranks.items w ≡ o → o ≡ None
        by_rank None e = refl
        by_rank (Some i) e = absurd (let at = none.right w i e in let h : None ≡ Some at.step = sym (ap (λ ss. slice_get ss i) steps) ∙ at.here in cc)

    zero_times : wires_of a.shape * 0 ≡ 0
    zero_times = omega arith

-- no more wires are known than there are
pub ranks_few : (a : Inside) → AreRanks a → length a.steps.items ≤ wires_of a.shape
ranks_few a r = let few = count_by-le-length is_some a.ranks.items in let counted = r.counted in let wide = r.wide in omega (arith, few, counted, wide)

-- the marks are of the known wires
module _ (a : Inside) (r : AreRanks a) (known : KnownWires) (is : record { shape = a.shape; steps = a.steps.items } ≡ known) (w : ℕ) where
  pub marked_has : has_number a.wires w ≡ true → HasWire known.steps w
  marked_has on = subst (λ (k : KnownWires). HasWire k.steps w) is (by_rank (rank_in a.ranks.items w) refl)
    where
      by_rank : (o : Option ℕ) → rank_in a.ranks.items w ≡ o → HasWire a.steps.items w
      by_rank None e = absurd (false≢true (sym (r.marked w ∙ ap is_some e) ∙ on))
      by_rank (Some i) e = record { place = i; at = r.right w i e }

  pub has_marked : HasWire known.steps w → has_number a.wires w ≡ true
  has_marked has = let h : HasWire a.steps.items w = subst (λ (k : KnownWires). HasWire k.steps w) (sym is) has in r.marked w ∙ ap is_some (r.whole w h.place h.at)
