-- The way up the tree from a wire's node.
use Rattle.place_plan.proofs.Vocabulary.{◌≡◌, ◌≢◌, ℕ, ◌<◌, Some, None, refl, subst, arith, Shape, wires_of, nodes_of, node_of, parent_of}
use Rattle.place_plan.proofs.Vocabulary.{IsAbove, itself, below, HasParents, Child, Outside, IsAt, at_child, at_outside, IsClimb}
use Rattle.place_plan.proofs.Upward.{higher}

module _ (m : Shape) where
  -- what is above a node, and not the node, is above the node above it
  pub above_next : {n a p : ℕ} → IsAbove m n a → n ≢ a → parent_of m a ≡ Some p → IsAbove m n p
  above_next itself ne e = absurd (ne refl)
  above_next {n} {a} {p} (below {p = q} up f) ne e = let s : q ≡ p = cc in subst (λ x. IsAbove m n x) s up

  pub above_root : {n : ℕ} {r : ℕ} → r ≡ 0 → IsAbove m n r → n ≢ r → parent_of m 0 ≡ None → ⊥
  above_root z itself ne e = ne refl
  above_root {n} {r} z (below {p = q} up f) ne e = let g : parent_of m 0 ≡ Some q = subst (λ x. parent_of m x ≡ Some q) z f in cc

  pub climb_begins : (has : HasParents m) (n w : ℕ) → w < wires_of m → n ≢ node_of m w → IsClimb m n (node_of m w) (node_of m w)
  climb_begins has n w lt ne = record { within = has.node_within w lt; above = itself; rest = λ a. a; other = ne }

  pub climb_on : (has : HasParents m) (n h a p : ℕ) → IsClimb m n h a → parent_of m a ≡ Some p → n ≢ p → IsClimb m n h p
  climb_on has n h a p is e ne = record {
    within = let l : p < a = has.before a p e in let k : a < nodes_of m = is.within in omega arith;
    above = higher m e is.above;
    rest = λ up. above_next (is.rest up) is.other e;
    other = ne;
  }

  pub climb_ends : (has : HasParents m) (n w a : ℕ) → IsClimb m n (node_of m w) a → a ≡ 0 → IsAt m n w Outside
  climb_ends has n w a is z = at_outside (λ up. above_root z (is.rest up) is.other has.root)

  pub climb_meets : (n w a p : ℕ) → IsClimb m n (node_of m w) a → parent_of m a ≡ Some p → p ≡ n → IsAt m n w (Child a)
  climb_meets n w a p is e s = at_child a (subst (λ x. parent_of m a ≡ Some x) s e) is.above

  pub child_within : (has : HasParents m) (n w c : ℕ) → IsAt m n w (Child c) → c < nodes_of m
  child_within has n w c (at_child b e i) = has.within b n e
