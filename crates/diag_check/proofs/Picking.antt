-- Wires that are picked of the two sides of a node's crossbar.
use Rattle.std.proofs.Common.{◌≡◌, ◌≢◌, ◌⊎◌, ℕ, zero, suc, ◌+◌, ◌<◌, ◌≤◌, Bool, if◌then◌else◌, Some, Option, List, [], ◌∷◌, ◌++◌, length, refl, sym, ap, ◌∙◌, subst, inl, inr, arith, slice_get, IfSome, IfNone}
use Rattle.diag_check.proofs.Vocabulary.{cases_eq, length-append, slice_get_within, has_number, Shape, Wire, IsNumbered, HasSites, Own}
use Rattle.diag_check.proofs.Vocabulary.{Lines, Picks, get_pushed, some_same}
use Rattle.diag_check.specs.Picked.{width_of, side_wire, IsAmong, IsOfSide, AreOfSide, HasFirstTwo, ArePicked, IsPickedAt, ArePickedUpTo}
use Rattle.diag_check.specs.declared.picks.Side.{Side}

-- ---- the two sides

module _ (m : Shape) where
  -- the first two wires of a side are different
  pub side_differs : IsNumbered m → HasSites m → (side : Side) (n : ℕ) → 2 ≤ width_of m side n → side_wire m side n 0 ≢ side_wire m side n 1
  side_differs numbered sites Own zero wide e = absurd (let same = numbered.pins_apart 0 1 (omega (arith, wide)) (omega (arith, wide)) e in let no : ⊥ = omega (arith, same) in no)
  side_differs numbered sites Own (suc n) wide e = absurd (let less = sites.ports_ascend (suc n) 0 1 (omega arith) in let no : ⊥ = omega (arith, less, e) in no)
  side_differs numbered sites Lines n wide e = absurd (let less = sites.lines_ascend n 0 1 (omega arith) in let no : ⊥ = omega (arith, less, e) in no)

  module _ (side : Side) (n : ℕ) where
    pub side_pushed : (ws : List Wire) (w : Wire) → AreOfSide m side n ws → IsOfSide m side n w.0 → (IsAmong ws w.0 → ⊥) → AreOfSide m side n (ws ++ w ∷ [])
    side_pushed ws w are is new = record {
      each = λ j u e. by_each j u (get_pushed ws w j u e);
      differ = λ i j u v e f l. by_differ i j u v (get_pushed ws w i u e) (get_pushed ws w j v f) l;
    }
      where
        by_each : (j : ℕ) (u : Wire) → (slice_get ws j ≡ Some u) ⊎ ((j ≡ length ws) × (w ≡ u)) → IsOfSide m side n u.0
        by_each j u (inl e) = are.each j u e
        by_each j u (inr h) = subst (λ (z : Wire). IsOfSide m side n z.0) h.1 is

        by_differ : (i j : ℕ) (u v : Wire) → (slice_get ws i ≡ Some u) ⊎ ((i ≡ length ws) × (w ≡ u)) → (slice_get ws j ≡ Some v) ⊎ ((j ≡ length ws) × (w ≡ v)) → i < j → u.0 ≢ v.0
        by_differ i j u v (inl e) (inl f) l = are.differ i j u v e f l
        by_differ i j u v (inl e) (inr h) l = λ same. new (record { place = i; wire = u; here = e; is = same ∙ ap (λ (z : Wire). z.0) (sym h.1) })
        by_differ i j u v (inr g) (inl f) l = absurd (let within = slice_get_within ws j v f in let at = g.0 in let no : ⊥ = omega (arith, within, at, l) in no)
        by_differ i j u v (inr g) (inr h) l = absurd (let at = g.0 in let on = h.0 in let no : ⊥ = omega (arith, at, on, l) in no)

    first_two : (ws : List Wire) → AreOfSide m side n ws → 2 ≤ length ws → HasFirstTwo ws
    first_two [] are l = absurd (let no : ⊥ = omega (arith, l) in no)
    first_two (x ∷ []) are l = absurd (let no : ⊥ = omega (arith, l) in no)
    first_two (x ∷ y ∷ ws) are l = record { one = x; two = y; first = refl; second = refl; differ = are.differ 0 1 x y refl refl (omega arith) }

    pub picked_full : (most : ℕ) (ws : List Wire) → AreOfSide m side n ws → length ws ≡ most → ArePicked m side n most ws
    picked_full most ws are len = record { of_side = are; few = omega (arith, len); two = λ some wide. first_two ws are (omega (arith, len, some)) }

    pub picked_all : (most : ℕ) (ws : List Wire) → IsNumbered m → HasSites m → AreOfSide m side n ws → length ws ≤ most → ((k : ℕ) → k < width_of m side n → IsAmong ws (side_wire m side n k)) → ArePicked m side n most ws
    picked_all most ws numbered sites are few all = record { of_side = are; few = few; two = λ some wide. first_two ws are (by wide (all 0 (omega (arith, wide))) (all 1 (omega (arith, wide)))) }
      where
        by : 2 ≤ width_of m side n → IsAmong ws (side_wire m side n 0) → IsAmong ws (side_wire m side n 1) → 2 ≤ length ws
        by wide a b = by_places (cases_eq a.place b.place)
          where
            by_places : (a.place ≡ b.place) ⊎ (a.place ≡ b.place → ⊥) → 2 ≤ length ws
            by_places (inl e) = absurd (side_differs numbered sites side n wide (sym a.is ∙ ap (λ (z : Wire). z.0) (some_same (sym a.here ∙ ap (slice_get ws) e ∙ b.here)) ∙ b.is))
            by_places (inr other) = let one = slice_get_within ws a.place a.wire a.here in let two = slice_get_within ws b.place b.wire b.here in omega (arith, one, two, other)

    -- ---- the search for a further wire

    pub record IsSought (ws : List Wire) (k : ℕ) (other : Option Wire) : Type 0 where
      pub some : IfSome other (λ w. IsOfSide m side n w.0 × (¬ IsAmong ws w.0))
      pub none : IfNone other ((j : ℕ) → j < k → IsAmong ws (side_wire m side n j))

  -- ---- the picks of the nodes one after the other

  pub picks_pushed : (nodes : List Bool) (most n : ℕ) (ps : List Picks) (p : Picks) → ArePickedUpTo m nodes most n ps → IsPickedAt m n (if has_number nodes n then most else 0) p → ArePickedUpTo m nodes most (n + 1) (ps ++ p ∷ [])
  picks_pushed nodes most n ps p are is = record { len = (let long = length-append ps (p ∷ []) in let len = are.len in omega (arith, long, len)); each = λ k q e. by k q (get_pushed ps p k q e) }
    where
      by : (k : ℕ) (q : Picks) → (slice_get ps k ≡ Some q) ⊎ ((k ≡ length ps) × (p ≡ q)) → IsPickedAt m k (if has_number nodes k then most else 0) q
      by k q (inl e) = are.each k q e
      by k q (inr h) = subst (λ j. IsPickedAt m j (if has_number nodes j then most else 0) q) (sym (h.0 ∙ are.len)) (subst (IsPickedAt m n (if has_number nodes n then most else 0)) h.1 is)
