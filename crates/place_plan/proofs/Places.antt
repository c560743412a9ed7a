-- A wire is at one place, seen from a node, and what a net's terminals say of it.
use Rattle.std.proofs.Common.{◌≡◌, ◌≢◌, ℕ, List, length, refl, sym, ap, ◌∙◌, subst, arith}
use Rattle.place_plan.proofs.Vocabulary.{All, All-contains, Shape, node_of, IsAbove, itself, IsTree, NetSide, Own, Child, Outside}
use Rattle.place_plan.specs.Vocabulary.{IsInside, IsAt, at_own, at_child, at_outside, IsStrand, Visits, IsAmong}
use Rattle.place_plan.proofs.Upward.{higher, not_in_child, one_child}

module _ (m : Shape) where
  module _ (tree : IsTree m) where
    -- a wire is at one place, seen from a node
    pub IsAt-unique : {n w : ℕ} {s r : NetSide} → IsAt m n w s → IsAt m n w r → s ≡ r
    IsAt-unique (at_own p) (at_own q) = refl
    IsAt-unique {n} {w} (at_own p) (at_child c e i) = absurd (not_in_child m tree n c w e p i)
    IsAt-unique {n} {w} (at_child c e i) (at_own p) = absurd (not_in_child m tree n c w e p i)
    IsAt-unique {n} {w} (at_own p) (at_outside far) = absurd (far (subst (λ x. IsAbove m x (node_of m w)) p itself))
    IsAt-unique {n} {w} (at_outside far) (at_own p) = absurd (far (subst (λ x. IsAbove m x (node_of m w)) p itself))
    IsAt-unique {n} {w} (at_child b e i) (at_child c f j) = ap Child (one_child m tree n b c w e f i j)
    IsAt-unique (at_child c e i) (at_outside far) = absurd (far (higher m e i))
    IsAt-unique (at_outside far) (at_child c e i) = absurd (far (higher m e i))
    IsAt-unique (at_outside p) (at_outside q) = refl

    -- where all terminals are at one place, the net doesn't visit the node
    pub one_strand : (ws : List ℕ) (n : ℕ) (s : NetSide) → All (λ w. IsAt m n w s) ws → ¬ Visits m (IsAmong ws) n
    one_strand ws n s all v =
        let at = λ (w : ℕ) (h : IsAmong ws w). All-contains (λ (u : ℕ). IsAt m n u s) ws w all h in
        v.different (IsAt-unique v.first.at (at v.first.wire v.first.is) ∙ sym (IsAt-unique v.second.at (at v.second.wire v.second.is)))

  pub two_strands : (ws : List ℕ) (n w u : ℕ) (s r : NetSide) → IsAmong ws w → IsAt m n w s → IsAmong ws u → IsAt m n u r → r ≢ s → Visits m (IsAmong ws) n
  two_strands ws n w u s r hw aw hu au ne = record { one = r; two = s; different = ne; first = record { wire = u; is = hu; at = au }; second = record { wire = w; is = hw; at = aw } }

  -- what is inside is the node's own or in a child
  pub outside_is : {n w : ℕ} → IsAt m n w Outside → ¬ IsInside m n w
  outside_is (at_outside far) = far

  pub inside_is : {n w : ℕ} {s : NetSide} → IsAt m n w s → s ≢ Outside → IsInside m n w
  inside_is {n} {w} (at_own p) ne = subst (λ x. IsAbove m x (node_of m w)) p itself
  inside_is (at_child c e i) ne = higher m e i
  inside_is (at_outside far) ne = absurd (ne refl)

  pub no_wires : (ws : List ℕ) (n : ℕ) → length ws ≡ 0 → ¬ Visits m (IsAmong ws) n
  no_wires ws n e v = let l = v.first.is.1 in omega arith

  -- a net that visits a node has a terminal inside
  pub visits_inside : (terminal : ℕ → Type 0) (n : ℕ) → Visits m terminal n → (w : ℕ) × terminal w × IsInside m n w
  visits_inside terminal n v = by v.one v.two v.different v.first v.second
    where
      inner : (s : NetSide) → s ≢ Outside → IsStrand m terminal n s → (w : ℕ) × terminal w × IsInside m n w
      inner s ne is = (is.wire, is.is, inside_is is.at ne)

      by : (s r : NetSide) → s ≢ r → IsStrand m terminal n s → IsStrand m terminal n r → (w : ℕ) × terminal w × IsInside m n w
      by (Own w) r ne a b = inner (Own w) (λ e. own_out w e) a
        where
          own_out : (w : ℕ) → Own w ≡ Outside → ⊥
          own_out w e = cc
      by (Child c) r ne a b = inner (Child c) (λ e. child_out c e) a
        where
          child_out : (c : ℕ) → Child c ≡ Outside → ⊥
          child_out c e = cc
      by Outside r ne a b = inner r (λ e. ne (sym e)) b
