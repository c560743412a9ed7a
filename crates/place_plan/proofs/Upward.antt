-- The nodes above a node, from the lower one upwards.
use Rattle.std.proofs.Common.{◌≡◌, ℕ, suc, ◌≤◌, Some, refl, sym, ap, ◌∙◌, subst, arith}
use Rattle.place_plan.proofs.Vocabulary.{Shape, node_of, parent_of, IsAbove, itself, below, IsTree, IsInside}

-- the same as to be above, from the lower node upwards
pub data IsUp (m : Shape) (h : ℕ) : ℕ → Type 0 where
  stay : IsUp m h h
  up : {c n : ℕ} → IsUp m h c → parent_of m c ≡ Some n → IsUp m h n

module _ (m : Shape) where
  lower : {h p n : ℕ} → parent_of m h ≡ Some p → IsUp m p n → IsUp m h n
  lower e stay = up stay e
  lower e (up a q) = up (lower e a) q

  pub up_of : {n h : ℕ} → IsAbove m n h → IsUp m h n
  up_of itself = stay
  up_of (below a e) = lower e (up_of a)

  -- a parent is above what its child is above
  pub higher : {n c h : ℕ} → parent_of m c ≡ Some n → IsAbove m c h → IsAbove m n h
  higher e itself = below itself e
  higher e (below a q) = below (higher e a) q

  pub above_of : {h n : ℕ} → IsUp m h n → IsAbove m n h
  above_of stay = itself
  above_of (up a e) = higher e (above_of a)

  module _ (tree : IsTree m) where
    deep_below : {h n : ℕ} → IsUp m h n → tree.depth n ≤ tree.depth h
    deep_below stay = omega arith
    deep_below (up {c} {n} a e) = let q = tree.deeper c n e in let r = deep_below a in omega arith

    one_parent : (a b c : ℕ) → parent_of m c ≡ Some a → parent_of m c ≡ Some b → a ≡ b
    one_parent a b c p q = cc

    -- of the nodes above a node, one has each depth
    one_at_depth : {h a b : ℕ} → IsUp m h a → IsUp m h b → tree.depth a ≡ tree.depth b → a ≡ b
    one_at_depth stay stay e = refl
    one_at_depth stay (up {c = c} {n = b} q f) e = absurd (let x = tree.deeper c b f in let y = deep_below q in omega arith)
    one_at_depth (up {c = c} {n = a} p f) stay e = absurd (let x = tree.deeper c a f in let y = deep_below p in omega arith)
    one_at_depth (up {c = c} {n = a} p f) (up {c = k} {n = b} q g) e =
        let same : c ≡ k = one_at_depth p q (tree.deeper c a f ∙ ap suc e ∙ sym (tree.deeper k b g)) in
        one_parent a b c f (subst (λ x. parent_of m x ≡ Some b) (sym same) g)

    pub not_in_child : (n c w : ℕ) → parent_of m c ≡ Some n → node_of m w ≡ n → ¬ IsInside m c w
    not_in_child n c w e at i = absurd (let x = deep_below (up_of i) in let y = tree.deeper c n e in let z = ap tree.depth at in omega arith)

    pub one_child : (n b c w : ℕ) → parent_of m b ≡ Some n → parent_of m c ≡ Some n → IsInside m b w → IsInside m c w → b ≡ c
    one_child n b c w e f p q = one_at_depth (up_of p) (up_of q) (let x = tree.deeper c n f in let y = tree.deeper b n e in omega arith)
