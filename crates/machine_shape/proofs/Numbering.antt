-- The numbering of wires and nodes is sound.
use Rattle.std.proofs.Common.{◌≡◌, ℕ, zero, suc, ◌+◌, ◌<◌, ltb, [], ◌∷◌, length, Some, None, refl, sym, ap, ◌∙◌, subst, arith}
use Rattle.machine_shape.proofs.Vocabulary.{⊎_elim, cases_lt, lt-ltb, le-ltb, cond-true, cond-false, Shape}
use Rattle.machine_shape.specs.Vocabulary.{levels_from, Path, rest, IsSpot, stop, start, place_in, Place, IsPlaceOf, above, trunk, ports_in, wires_in, tables_in, levels_of, wires_of, nodes_of, tables_of, pins_of, way_to, way_to_table, node_at, place_of, ports_of, lines_of, pin_wire, table_wire, port_at, line_at, node_of, IsLine, IsPort, parent_in, parent_of, IsAbove, itself, below}
use Rattle.machine_shape.proofs.Walks.{place_from, placed}
use Rattle.machine_shape.proofs.Ways.{IsNode, node_way, way_node, table_way, no_table_is_node, place_unique, trunk-node, trunk_is_spot, trunk_is_node, above_is_spot, above_is_node, length-above}

module _ (m : Shape) where
  -- the ways to nodes and tables
  pub way_is : (n : ℕ) → n < nodes_of m → IsSpot (levels_of m) (way_to m n) × IsNode (levels_of m) (way_to m n) × (node_at m (way_to m n) ≡ n)
  unfolding nodes_of way_to node_at
  way_is n h = node_way (levels_of m) n h

  pub way-node : (p : Path) → IsSpot (levels_of m) p → IsNode (levels_of m) p → (node_at m p < nodes_of m) × (way_to m (node_at m p) ≡ p)
  unfolding nodes_of way_to node_at
  way-node p s n = way_node (levels_of m) p s n

  pub table_way_is : (t : ℕ) → t < tables_of m → IsSpot (levels_of m) (way_to_table m t) × (rest (levels_of m) (way_to_table m t) ≡ []) × (start tables_in (levels_of m) (way_to_table m t) ≡ t)
  unfolding tables_of way_to_table
  table_way_is t h = table_way (levels_of m) t h

  pub root_is_node : IsNode (levels_of m) []
  unfolding levels_of levels_from
  root_is_node = omega arith

  pub trunk_in : (p : Path) → IsNode (levels_of m) (trunk (levels_of m) p)
  trunk_in p = trunk_is_node (levels_of m) p root_is_node

  pub node_at-root : node_at m [] ≡ 0
  unfolding node_at
  node_at-root = refl

  pub way_to-root : way_to m 0 ≡ []
  way_to-root = ap (way_to m) (sym node_at-root) ∙ (way-node [] stop root_is_node).1

  -- the places of wires
  pub line_is : (n k : ℕ) → n < nodes_of m → k < lines_of m n → IsPlaceOf wires_in (levels_of m) (line_at m n k) (record { path = way_to m n; position = ports_of m n + k })
  unfolding line_at ports_of lines_of
  line_is n k h b = record { spot = (way_is n h).0; within = omega arith; number = refl }

  pub port_is : (n k : ℕ) → n < nodes_of m → k < ports_of m n → IsPlaceOf wires_in (levels_of m) (port_at m n k) (record { path = way_to m n; position = k })
  unfolding port_at ports_of
  port_is n k h b = record { spot = (way_is n h).0; within = omega arith; number = refl }

  pub table_pin_is : (t k : ℕ) → t < tables_of m → k < 7 → IsPlaceOf wires_in (levels_of m) (table_wire m t k) (record { path = way_to_table m t; position = k })
  unfolding table_wire
  table_pin_is t k h b = let r = table_way_is t h in let e : wires_in (rest (levels_of m) (way_to_table m t)) ≡ 7 = ap wires_in r.1 in record { spot = r.0; within = omega arith; number = refl }

  pub pin_is : (k : ℕ) → k < pins_of m → IsPlaceOf wires_in (levels_of m) (pin_wire m k) (record { path = []; position = k })
  unfolding pin_wire pins_of
  pin_is k h = record { spot = stop; within = omega arith; number = omega arith }

  pub wire_below : (w : ℕ) (q : Place) → IsPlaceOf wires_in (levels_of m) w q → w < wires_of m
  unfolding wires_of
  wire_below w q is = (place_from wires_in is).0

  same_place : (w u : ℕ) (q r : Place) → w ≡ u → IsPlaceOf wires_in (levels_of m) w q → IsPlaceOf wires_in (levels_of m) u r → q ≡ r
  same_place w u q r e a b = place_unique wires_in (levels_of m) w u q r e a b

  pub tables_apart : (t u k l : ℕ) → t < tables_of m → u < tables_of m → k < 7 → l < 7 → table_wire m t k ≡ table_wire m u l → (t ≡ u) × (k ≡ l)
  tables_apart t u k l ht hu hk hl e =
      let s = same_place _ _ _ _ e (table_pin_is t k ht hk) (table_pin_is u l hu hl) in
      (sym (table_way_is t ht).2 ∙ ap (λ q. start tables_in (levels_of m) q.path) s ∙ (table_way_is u hu).2, ap (λ q. q.position) s)

  pub no_pin_is_table : (k t l : ℕ) → k < pins_of m → t < tables_of m → l < 7 → pin_wire m k ≡ table_wire m t l → ⊥
  no_pin_is_table k t l hk ht hl e = no_table_is_node (levels_of m) [] (way_to_table m t) root_is_node (table_way_is t ht).1 (ap (λ q. q.path) (same_place _ _ _ _ e (pin_is k hk) (table_pin_is t l ht hl)))

  -- what a line and a port are
  pub line_has : (n w : ℕ) → IsLine m n w → (k : ℕ) × (n < nodes_of m) × (k < lines_of m n) × IsPlaceOf wires_in (levels_of m) w (record { path = way_to m n; position = ports_of m n + k })
  unfolding IsLine
  line_has n w is = (is.1.0, is.0, is.1.1, subst (λ x. IsPlaceOf wires_in (levels_of m) x (record { path = way_to m n; position = ports_of m n + is.1.0 })) (sym is.1.2) (line_is n is.1.0 is.0 is.1.1))

  pub port_has : (n w : ℕ) → IsPort m n w → (k : ℕ) × (n < nodes_of m) × (0 < n) × (k < ports_of m n) × IsPlaceOf wires_in (levels_of m) w (record { path = way_to m n; position = k })
  unfolding IsPort
  port_has n w is = (is.2.0, is.1, is.0, is.2.1, subst (λ x. IsPlaceOf wires_in (levels_of m) x (record { path = way_to m n; position = is.2.0 })) (sym is.2.2) (port_is n is.2.0 is.1 is.2.1))

  pub node_of-place : (w : ℕ) (q : Place) → IsPlaceOf wires_in (levels_of m) w q → node_of m w ≡ node_at m (trunk (levels_of m) q.path)
  unfolding node_of place_of
  node_of-place w q is = ap (λ r. node_at m (trunk (levels_of m) r.path)) (place_from wires_in is).1

  pub node_of-way : (n w k : ℕ) → n < nodes_of m → IsPlaceOf wires_in (levels_of m) w (record { path = way_to m n; position = k }) → node_of m w ≡ n
  node_of-way n w k h is = let r = way_is n h in node_of-place w _ is ∙ ap (node_at m) (trunk-node r.0 r.1) ∙ r.2

  -- the parent
  parent_is : (n : ℕ) (p : Path) → IsSpot (levels_of m) p → parent_in m p ≡ Some n → length p ≡ suc (length (way_to m n))
  parent_is n [] s e = absurd (cc)
  parent_is n (i ∷ p) s e = let f : node_at m (above (i ∷ p)) ≡ n = cc in length-above i p ∙ ap (λ q. suc (length q)) (sym (way-node (above (i ∷ p)) (above_is_spot (i ∷ p) s) (above_is_node i p s)).1 ∙ ap (way_to m) f)

  pub deeper : (c n : ℕ) → parent_of m c ≡ Some n → length (way_to m c) ≡ suc (length (way_to m n))
  unfolding parent_of
  deeper c n e = ⊎_elim
      (λ h. parent_is n (way_to m c) (way_is c h).0 (sym (cond-true (ltb c (nodes_of m)) (parent_in m (way_to m c)) None (lt-ltb c _ h)) ∙ e))
      (λ h. absurd (let x : None ≡ Some n = sym (cond-false (ltb c (nodes_of m)) (parent_in m (way_to m c)) None (le-ltb c _ h)) ∙ e in cc))
      (cases_lt c (nodes_of m))

  pub parent-node : (i : ℕ) (p : Path) → IsSpot (levels_of m) (i ∷ p) → IsNode (levels_of m) (i ∷ p) → parent_of m (node_at m (i ∷ p)) ≡ Some (node_at m (above (i ∷ p)))
  unfolding parent_of
  parent-node i p s n = let r = way-node (i ∷ p) s n in cond-true (ltb (node_at m (i ∷ p)) (nodes_of m)) _ None (lt-ltb _ _ r.0) ∙ ap (parent_in m) r.1

  below_root : (k : ℕ) (p : Path) → length p ≡ k → IsSpot (levels_of m) p → IsNode (levels_of m) p → IsAbove m 0 (node_at m p)
  below_root k [] e s n = subst (IsAbove m 0) (sym node_at-root) itself
  below_root (suc k) (i ∷ p) e s n = below (below_root k (above (i ∷ p)) (let l = length-above i p in omega arith) (above_is_spot (i ∷ p) s) (above_is_node i p s)) (parent-node i p s n)
  below_root zero (i ∷ p) e s n = absurd (omega arith)

  pub all_below_root : (n : ℕ) → n < nodes_of m → IsAbove m 0 n
  all_below_root n h = let r = way_is n h in subst (IsAbove m 0) r.2 (below_root _ (way_to m n) refl r.0 r.1)

  -- lines, ports, pins and tables stay apart
  pub no_line_is_port : (n k w : ℕ) → IsLine m n w → IsPort m k w → ⊥
  no_line_is_port n k w a b =
      let l = line_has n w a in
      let p = port_has k w b in
      let s = same_place w w _ _ refl l.3 p.4 in
      let i = way_is n l.1 in let j = way_is k p.1 in
      let same : n ≡ k = sym i.2 ∙ ap (λ q. node_at m q.path) s ∙ j.2 in
      let x : ports_of m n + l.0 ≡ p.0 = ap (λ q. q.position) s in let o : ports_of m n ≡ ports_of m k = ap (ports_of m) same in let h = p.3 in omega arith

  pub no_pin_is_line : (k n w : ℕ) → k < pins_of m → w ≡ pin_wire m k → IsLine m n w → ⊥
  unfolding ports_of pins_of
  no_pin_is_line k n w h e a =
      let l = line_has n w a in
      let s = same_place w (pin_wire m k) _ _ e l.3 (pin_is k h) in
      let r : ports_in (rest (levels_of m) (way_to m n)) ≡ ports_in (levels_of m) = ap (λ q. ports_in (rest (levels_of m) q.path)) s in
      let x : ports_in (rest (levels_of m) (way_to m n)) + l.0 ≡ k = ap (λ q. q.position) s in omega arith

  pub no_pin_is_port : (k n w : ℕ) → k < pins_of m → w ≡ pin_wire m k → IsPort m n w → ⊥
  no_pin_is_port k n w h e a =
      let p = port_has n w a in
      let s = same_place w (pin_wire m k) _ _ e p.4 (pin_is k h) in
      let x : n ≡ 0 = sym (way_is n p.1).2 ∙ ap (λ q. node_at m q.path) s ∙ node_at-root in let y = p.2 in omega arith

  pub no_table_is_line : (t k n w : ℕ) → t < tables_of m → k < 7 → w ≡ table_wire m t k → IsLine m n w → ⊥
  no_table_is_line t k n w ht hk e a = let l = line_has n w a in no_table_is_node (levels_of m) (way_to m n) (way_to_table m t) (way_is n l.1).1 (table_way_is t ht).1 (ap (λ q. q.path) (same_place w _ _ _ e l.3 (table_pin_is t k ht hk)))

  pub no_table_is_port : (t k n w : ℕ) → t < tables_of m → k < 7 → w ≡ table_wire m t k → IsPort m n w → ⊥
  no_table_is_port t k n w ht hk e a = let p = port_has n w a in no_table_is_node (levels_of m) (way_to m n) (way_to_table m t) (way_is n p.1).1 (table_way_is t ht).1 (ap (λ q. q.path) (same_place w _ _ _ e p.4 (table_pin_is t k ht hk)))

  pub node_of_below : (w : ℕ) → w < wires_of m → node_of m w < nodes_of m
  unfolding wires_of
  node_of_below w h = let r = placed wires_in (levels_of m) w h in subst (λ n. n < nodes_of m) (sym (node_of-place w _ r)) (way-node _ (trunk_is_spot r.spot) (trunk_in (place_in wires_in (levels_of m) w).path)).0

  pub pins_apart : (k l : ℕ) → pin_wire m k ≡ pin_wire m l → k ≡ l
  unfolding pin_wire
  pins_apart k l e = e
