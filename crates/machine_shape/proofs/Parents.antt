-- The nodes above nodes, and the nodes of tables and pins.
use Rattle.machine_shape.proofs.Vocabulary.{◌≡◌, ℕ, ◌<◌, [], ◌∷◌, ◌++◌, Some, None, refl, sym, ap, ◌∙◌, subst, arith, Shape}
use Rattle.machine_shape.specs.Vocabulary.{Path, IsSpot, stop, start, above, nodes_in, levels_of, nodes_of, tables_of, pins_of, way_to, way_to_table, node_at, pin_wire, table_wire, parent_in, parent_of, node_of, hextant_of}
use Rattle.machine_shape.proofs.Ways.{above_is_spot, above_is_node, start_more, trunk_is_spot, trunk-node}
use Rattle.machine_shape.proofs.Numbering.{way_is, way-node, table_way_is, way_to-root, node_at-root, root_is_node, trunk_in, node_of-place, pin_is, table_pin_is}
use Rattle.machine_shape.proofs.Tapped.{child_from, has_parent, parent_of-way, hextant_of-way}

module _ (m : Shape) where
  root_below : 0 < nodes_of m
  root_below = subst (λ k. k < nodes_of m) (node_at-root m) (way-node m [] stop (root_is_node m)).0

  pub parent_of-root : parent_of m 0 ≡ None
  parent_of-root = parent_of-way m 0 root_below ∙ ap (parent_in m) (way_to-root m)

  parent_from : (c : ℕ) (p : Path) → 0 < c → node_at m p ≡ c → (n : ℕ) × (parent_in m p ≡ Some n)
  parent_from c [] z e = absurd (let x = node_at-root m in omega arith)
  parent_from c (i ∷ p) z e = (_, refl)

  pub has_one : (c : ℕ) → 0 < c → c < nodes_of m → (n : ℕ) × (parent_of m c ≡ Some n)
  has_one c z h = let r = parent_from c (way_to m c) z (way_is m c h).2 in (r.0, parent_of-way m c h ∙ r.1)

  node_at-start : (p : Path) → node_at m p ≡ start nodes_in (levels_of m) p
  unfolding node_at
  node_at-start p = refl

  pub before : (c n : ℕ) → parent_of m c ≡ Some n → n < nodes_of m → n < c
  before c n e b =
      let h = has_parent m c n e in
      let k = child_from m n (way_to m c) (way_is m c h).0 (sym (parent_of-way m c h) ∙ e) in
      let s : start nodes_in (levels_of m) (way_to m c) ≡ start nodes_in (levels_of m) (way_to m n ++ (k.0 ∷ [])) = ap (start nodes_in (levels_of m)) k.2 in
      let t = start_more nodes_in k.0 k.3 k.1 in
      let i = way_is m n b in
      let node = i.1 in
      let at : start nodes_in (levels_of m) (way_to m n) ≡ n = sym (node_at-start (way_to m n)) ∙ i.2 in
      let to : start nodes_in (levels_of m) (way_to m c) ≡ c = sym (node_at-start (way_to m c)) ∙ (way_is m c h).2 in omega arith

  pub hextant_below : (t : ℕ) → t < tables_of m → hextant_of m t < nodes_of m
  hextant_below t h = subst (λ k. k < nodes_of m) (sym (hextant_of-way m t _ refl)) (way-node m _ (trunk_is_spot (table_way_is m t h).0) (trunk_in m (way_to_table m t))).0

  pub node_of-table : (t k : ℕ) → t < tables_of m → k < 7 → node_of m (table_wire m t k) ≡ hextant_of m t
  node_of-table t k h b = node_of-place m _ _ (table_pin_is m t k h b) ∙ sym (hextant_of-way m t _ refl)

  pub node_of-pin : (k : ℕ) → k < pins_of m → node_of m (pin_wire m k) ≡ 0
  node_of-pin k h = node_of-place m _ _ (pin_is m k h) ∙ ap (node_at m) (trunk-node stop (root_is_node m)) ∙ node_at-root m

  within_from : (n : ℕ) (p : Path) → IsSpot (levels_of m) p → parent_in m p ≡ Some n → n < nodes_of m
  within_from n [] s e = absurd (cc)
  within_from n (i ∷ p) s e = let f : node_at m (above (i ∷ p)) ≡ n = cc in subst (λ k. k < nodes_of m) f (way-node m (above (i ∷ p)) (above_is_spot (i ∷ p) s) (above_is_node i p s)).0

  pub parent_below : (c n : ℕ) → parent_of m c ≡ Some n → n < nodes_of m
  parent_below c n e = let h = has_parent m c n e in within_from n (way_to m c) (way_is m c h).0 (sym (parent_of-way m c h) ∙ e)
