-- The taps of a crossbar are the machine's pins at the root, its ports, those of its children, and the pins of its tables.
use Rattle.std.proofs.Common.{◌≡◌, ℕ, zero, suc, ◌+◌, ◌<◌, ltb, [], ◌∷◌, ◌++◌, Some, None, refl, sym, ap, ◌∙◌, subst, arith}
use Rattle.machine_shape.proofs.Vocabulary.{⊎_elim, cases_lt, lt-ltb, le-ltb, cond-true, cond-false, Shape}
use Rattle.machine_shape.specs.Vocabulary.{Path, rest, IsSpot, start, above, trunk, next, children_in, ports_in, wires_in, nodes_in, levels_of, nodes_of, tables_of, pins_of, way_to, way_to_table, node_at, ports_of, taps_of, pin_wire, table_wire, port_at, tap_at, IsPort, parent_in, parent_of, hextant_of, IsTap, tap_pin, tap_port, tap_child, tap_table}
use Rattle.machine_shape.proofs.Ways.{ends_at, step_more, trunk-more, trunk_is_spot, above-more, above_is_spot, above_is_node, last_step, trunk_last, trunk_is_node}
use Rattle.machine_shape.proofs.Taps as taps
use Rattle.machine_shape.proofs.Numbering.{way_is, way-node, table_way_is, way_to-root, root_is_node}
use Rattle.machine_shape.proofs.Meanings.{IsPort-at, way-table, table_wire-way, port_at-way, ports_of-way, node_at-below}

module _ (m : Shape) where
  parent_in-more : (p : Path) (i : ℕ) → parent_in m (p ++ (i ∷ [])) ≡ Some (node_at m p)
  parent_in-more [] i = refl
  parent_in-more (j ∷ p) i = ap (λ q. Some (node_at m q)) (above-more (j ∷ p) i)

  pub parent_of-way : (c : ℕ) → c < nodes_of m → parent_of m c ≡ parent_in m (way_to m c)
  unfolding parent_of
  parent_of-way c h = cond-true (ltb c (nodes_of m)) _ None (lt-ltb c _ h)

  pub has_parent : (c n : ℕ) → parent_of m c ≡ Some n → c < nodes_of m
  unfolding parent_of
  has_parent c n e = ⊎_elim (λ h. h)
      (λ h. absurd (let x : None ≡ Some n = sym (cond-false (ltb c (nodes_of m)) (parent_in m (way_to m c)) None (le-ltb c _ h)) ∙ e in cc))
      (cases_lt c (nodes_of m))

  pub hextant_of-way : (t : ℕ) (p : Path) → way_to_table m t ≡ p → hextant_of m t ≡ node_at m (trunk (levels_of m) p)
  unfolding hextant_of
  hextant_of-way t p e = ap (λ q. node_at m (trunk (levels_of m) q)) e

  node_at-more : (p : Path) (i : ℕ) → IsSpot (levels_of m) (p ++ (i ∷ [])) → 0 < node_at m (p ++ (i ∷ []))
  node_at-more [] i s = node_at-below m i [] s
  node_at-more (j ∷ p) i s = node_at-below m j (p ++ (i ∷ [])) s

  -- a position is a tap
  below_is_tap : (n i r w : ℕ) → n < nodes_of m → i < children_in (rest (levels_of m) (way_to m n)) → r < ports_in (next (rest (levels_of m) (way_to m n))) →
      w ≡ start wires_in (levels_of m) (way_to m n ++ (i ∷ [])) + r → IsTap m n w
  below_is_tap n i r w h hi hr e =
      let at = way_is m n h in
      let more = step_more i at.0 hi in
      ⊎_elim
      (λ z.
      let t = way-table m (way_to m n ++ (i ∷ [])) more.0 (more.1 ∙ z) in
      let seven : ports_in (next (rest (levels_of m) (way_to m n))) ≡ 7 = ap ports_in z in
      tap_table _ r t.0 (hextant_of-way _ _ t.1 ∙ ap (node_at m) (trunk-more i at.0 hi z) ∙ at.2) (omega arith) (e ∙ sym (table_wire-way m _ r _ t.1)))
      (λ z.
      let c = way-node m (way_to m n ++ (i ∷ [])) more.0 (subst (λ k. 0 < nodes_in k) (sym more.1) z) in
      let has : ports_of m (node_at m (way_to m n ++ (i ∷ []))) ≡ ports_in (next (rest (levels_of m) (way_to m n))) = ports_of-way m _ _ c.1 ∙ ap ports_in more.1 in
      tap_child (node_at m (way_to m n ++ (i ∷ [])))
      (parent_of-way _ c.0 ∙ ap (parent_in m) c.1 ∙ parent_in-more (way_to m n) i ∙ ap Some at.2)
      (IsPort-at m _ r w (node_at-more (way_to m n) i more.0) c.0 (omega arith) (e ∙ sym (port_at-way m _ r _ c.1))))
      (ends_at (next (rest (levels_of m) (way_to m n))))

  own_is_tap : (n a w : ℕ) → n < nodes_of m → a < ports_in (rest (levels_of m) (way_to m n)) → w ≡ start wires_in (levels_of m) (way_to m n) + a → IsTap m n w
  unfolding pins_of pin_wire
  own_is_tap zero a w h b e =
      tap_pin a refl (subst (λ q. a < ports_in (rest (levels_of m) q)) (way_to-root m) b) (e ∙ ap (λ q. start wires_in (levels_of m) q + a) (way_to-root m) ∙ omega arith)
  own_is_tap (suc n) a w h b e = tap_port (IsPort-at m (suc n) a w (omega arith) h (let x = ports_of-way m (suc n) _ refl in omega arith) (e ∙ sym (port_at-way m (suc n) a _ refl)))

  tap_at-is : (n a w : ℕ) → n < nodes_of m → taps.IsTap (levels_of m) (way_to m n) a w → IsTap m n w
  tap_at-is n a w h (taps.own_port b e) = own_is_tap n a w h b e
  tap_at-is n a w h (taps.port_below i r hi hr q e) = below_is_tap n i r w h hi hr e

  pub position_is_tap : (n a : ℕ) → n < nodes_of m → a < taps_of m n → IsTap m n (tap_at m n a)
  unfolding taps_of tap_at
  position_is_tap n a h b = tap_at-is n a _ h (taps.tap_is (levels_of m) (way_to m n) a b)

  -- and a tap has a position
  own_position : (n a : ℕ) → n < nodes_of m → a < ports_in (rest (levels_of m) (way_to m n)) → (a < taps_of m n) × (tap_at m n a ≡ start wires_in (levels_of m) (way_to m n) + a)
  unfolding taps_of tap_at
  own_position n a h b = (taps.own_within (rest (levels_of m) (way_to m n)) (way_is m n h).1 a b, taps.tap_in-own (levels_of m) (way_to m n) a b)

  below_position : (n i r : ℕ) → i < children_in (rest (levels_of m) (way_to m n)) → r < ports_in (next (rest (levels_of m) (way_to m n))) →
      (a : ℕ) × (a < taps_of m n) × (tap_at m n a ≡ start wires_in (levels_of m) (way_to m n ++ (i ∷ [])) + r)
  unfolding taps_of tap_at
  below_position n i r hi hr = (_, taps.below_within (rest (levels_of m) (way_to m n)) i r hi hr, taps.tap_in-below (levels_of m) (way_to m n) i r hr)

  IsPort-has : (n w : ℕ) → IsPort m n w → (k : ℕ) × (n < nodes_of m) × (k < ports_of m n) × (w ≡ port_at m n k)
  unfolding IsPort
  IsPort-has n w p = (p.2.0, p.1, p.2.1, p.2.2)

  pub child_from : (n : ℕ) (p : Path) → IsSpot (levels_of m) p → parent_in m p ≡ Some n → (j : ℕ) × (j < children_in (rest (levels_of m) (way_to m n))) × (p ≡ way_to m n ++ (j ∷ [])) × IsSpot (levels_of m) (way_to m n)
  child_from n [] s e = absurd (cc)
  child_from n (i ∷ p) s e =
      let l = last_step (levels_of m) p i s in
      let f : node_at m (above (i ∷ p)) ≡ n = cc in
      let up = above_is_spot (i ∷ p) s in
      let w : above (i ∷ p) ≡ way_to m n = sym (way-node m (above (i ∷ p)) up (above_is_node i p s)).1 ∙ ap (way_to m) f in
      (l.0, subst (λ q. l.0 < children_in (rest (levels_of m) q)) w l.1, l.2 ∙ ap (λ q. q ++ (l.0 ∷ [])) w, subst (IsSpot (levels_of m)) w up)

  child_position : (n c w : ℕ) → parent_of m c ≡ Some n → IsPort m c w → (a : ℕ) × (a < taps_of m n) × (tap_at m n a ≡ w)
  child_position n c w e is =
      let p = IsPort-has c w is in
      let k = child_from n (way_to m c) (way_is m c p.1).0 (sym (parent_of-way c p.1) ∙ e) in
      let more = step_more k.0 k.3 k.1 in
      let has : ports_of m c ≡ ports_in (next (rest (levels_of m) (way_to m n))) = ports_of-way m c _ k.2 ∙ ap ports_in more.1 in
      let h = p.2 in
      let b = below_position n k.0 p.0 k.1 (omega arith) in
      (b.0, b.1, b.2 ∙ sym (port_at-way m c p.0 _ k.2) ∙ sym p.3)

  table_position : (n t k w : ℕ) → t < tables_of m → hextant_of m t ≡ n → k < 7 → w ≡ table_wire m t k → (a : ℕ) × (a < taps_of m n) × (tap_at m n a ≡ w)
  table_position n t k w ht e hk f =
      let at = table_way_is m t ht in
      let l = trunk_last at.0 at.1 (root_is_node m) in
      let up = way-node m (trunk (levels_of m) (way_to_table m t)) (trunk_is_spot at.0) (trunk_is_node (levels_of m) (way_to_table m t) (root_is_node m)) in
      let same : trunk (levels_of m) (way_to_table m t) ≡ way_to m n = sym up.1 ∙ ap (way_to m) (sym (hextant_of-way t _ refl) ∙ e) in
      let seven : ports_in (next (rest (levels_of m) (way_to m n))) ≡ 7 = ap (λ q. ports_in (next (rest (levels_of m) q))) (sym same) ∙ ap ports_in l.3 in
      let b = below_position n l.0 k (subst (λ q. l.0 < children_in (rest (levels_of m) q)) same l.1) (omega arith) in
      (b.0, b.1, b.2 ∙ ap (λ q. start wires_in (levels_of m) (q ++ (l.0 ∷ [])) + k) (sym same) ∙ sym (table_wire-way m t k _ l.2) ∙ sym f)

  own_pin : (n k w : ℕ) → n < nodes_of m → n ≡ 0 → k < pins_of m → w ≡ pin_wire m k → (a : ℕ) × (a < taps_of m n) × (tap_at m n a ≡ w)
  unfolding pins_of pin_wire
  own_pin n k w h e b f =
      let root : way_to m n ≡ [] = ap (way_to m) e ∙ way_to-root m in
      let o = own_position n k h (subst (λ q. k < ports_in (rest (levels_of m) q)) (sym root) b) in
      (k, o.0, o.1 ∙ ap (λ q. start wires_in (levels_of m) q + k) root ∙ omega arith)

  own_port : (n w : ℕ) → IsPort m n w → (a : ℕ) × (a < taps_of m n) × (tap_at m n a ≡ w)
  own_port n w is =
      let p = IsPort-has n w is in
      let has = ports_of-way m n _ refl in
      let h = p.2 in
      let o = own_position n p.0 p.1 (omega arith) in
      (p.0, o.0, o.1 ∙ sym (port_at-way m n p.0 _ refl) ∙ sym p.3)

  pub tap_has_position : (n w : ℕ) → n < nodes_of m → IsTap m n w → (a : ℕ) × (a < taps_of m n) × (tap_at m n a ≡ w)
  tap_has_position n w h (tap_pin k e b f) = own_pin n k w h e b f
  tap_has_position n w h (tap_port is) = own_port n w is
  tap_has_position n w h (tap_child c e is) = child_position n c w e is
  tap_has_position n w h (tap_table t k ht e hk f) = table_position n t k w ht e hk f
