-- Each wire has one meaning.
use Rattle.std.proofs.Common.{◌≡◌, ◌≢◌, ℕ, ◌+◌, ◌-◌, ◌<◌, ◌≤◌, [], ◌∷◌, length, refl, sym, ap, ◌∙◌, subst, arith}
use Rattle.machine_shape.proofs.Vocabulary.{⊎_elim, cases_lt, Shape}
use Rattle.machine_shape.specs.Vocabulary.{Path, rest, IsSpot, start, Place, IsPlaceOf, ports_in, lines_in, wires_in, tables_in, levels_of, wires_of, nodes_of, tables_of, pins_of, way_to, way_to_table, node_at, ports_of, lines_of, pin_wire, table_wire, port_at, line_at, IsLine, IsPort, Meaning, Pin, Line, Port, TablePin, Means, is_pin, is_line, is_port, is_table_pin}
use Rattle.machine_shape.proofs.Walks.{placed}
use Rattle.machine_shape.proofs.Ways.{IsNode, way_table, ends_at, below_the_root, place_unique}
use Rattle.machine_shape.proofs.Numbering.{way_is, way-node, line_is, port_is, pin_is, table_pin_is, wire_below, tables_apart, pins_apart, no_pin_is_table, no_pin_is_line, no_pin_is_port, no_line_is_port, no_table_is_line, no_table_is_port}
use Rattle.machine_shape.proofs.Crossings.{lines_differ}

module _ (m : Shape) where
  pub IsLine-at : (n k : ℕ) (w : ℕ) → n < nodes_of m → k < lines_of m n → w ≡ line_at m n k → IsLine m n w
  unfolding IsLine
  IsLine-at n k w h b e = (h, (k, b, e))

  pub IsPort-at : (n k : ℕ) (w : ℕ) → 0 < n → n < nodes_of m → k < ports_of m n → w ≡ port_at m n k → IsPort m n w
  unfolding IsPort
  IsPort-at n k w z h b e = (z, h, (k, b, e))

  pub ports_differ : (n k a b : ℕ) → n < nodes_of m → k < nodes_of m → a < ports_of m n → b < ports_of m k → port_at m n a ≡ port_at m k b → (n ≡ k) × (a ≡ b)
  ports_differ n k a b hn hk ha hb e =
      let s = place_unique wires_in (levels_of m) _ _ _ _ e (port_is m n a hn ha) (port_is m k b hk hb) in
      (sym (way_is m n hn).2 ∙ ap (λ q. node_at m q.path) s ∙ (way_is m k hk).2, ap (λ q. q.position) s)

  pub meant_below : (w : ℕ) (x : Meaning) → Means m w x → w < wires_of m
  meant_below w _ (is_pin k h e) = subst (λ v. v < wires_of m) (sym e) (wire_below m _ _ (pin_is m k h))
  meant_below w _ (is_line n k h b e) = subst (λ v. v < wires_of m) (sym e) (wire_below m _ _ (line_is m n k h b))
  meant_below w _ (is_port n k z h b e) = subst (λ v. v < wires_of m) (sym e) (wire_below m _ _ (port_is m n k h b))
  meant_below w _ (is_table_pin t k h b e) = subst (λ v. v < wires_of m) (sym e) (wire_below m _ _ (table_pin_is m t k h b))

  pub one_meaning : (w : ℕ) (x y : Meaning) → Means m w x → Means m w y → x ≡ y
  one_meaning w _ _ (is_pin k h e) (is_pin l g f) = ap Pin (pins_apart m k l (sym e ∙ f))
  one_meaning w _ _ (is_pin k h e) (is_line n l hn g f) = absurd (no_pin_is_line m k n w h e (IsLine-at n l w hn g f))
  one_meaning w _ _ (is_pin k h e) (is_port n l z hn g f) = absurd (no_pin_is_port m k n w h e (IsPort-at n l w z hn g f))
  one_meaning w _ _ (is_pin k h e) (is_table_pin t l ht g f) = absurd (no_pin_is_table m k t l h ht g (sym e ∙ f))
  one_meaning w _ _ (is_line n l hn g f) (is_pin k h e) = absurd (no_pin_is_line m k n w h e (IsLine-at n l w hn g f))
  one_meaning w _ _ (is_line n k hn h e) (is_line j l hj g f) = let r = lines_differ m n j k l hn hj h g (sym e ∙ f) in ap (λ i. Line i k) r.0 ∙ ap (Line j) r.1
  one_meaning w _ _ (is_line n k hn h e) (is_port j l z hj g f) = absurd (no_line_is_port m n j w (IsLine-at n k w hn h e) (IsPort-at j l w z hj g f))
  one_meaning w _ _ (is_line n k hn h e) (is_table_pin t l ht g f) = absurd (no_table_is_line m t l n w ht g f (IsLine-at n k w hn h e))
  one_meaning w _ _ (is_port n l z hn g f) (is_pin k h e) = absurd (no_pin_is_port m k n w h e (IsPort-at n l w z hn g f))
  one_meaning w _ _ (is_port j l z hj g f) (is_line n k hn h e) = absurd (no_line_is_port m n j w (IsLine-at n k w hn h e) (IsPort-at j l w z hj g f))
  one_meaning w _ _ (is_port n k y hn h e) (is_port j l z hj g f) = let r = ports_differ n j k l hn hj h g (sym e ∙ f) in ap (λ i. Port i k) r.0 ∙ ap (Port j) r.1
  one_meaning w _ _ (is_port n k z hn h e) (is_table_pin t l ht g f) = absurd (no_table_is_port m t l n w ht g f (IsPort-at n k w z hn h e))
  one_meaning w _ _ (is_table_pin t l ht g f) (is_pin k h e) = absurd (no_pin_is_table m k t l h ht g (sym e ∙ f))
  one_meaning w _ _ (is_table_pin t l ht g f) (is_line n k hn h e) = absurd (no_table_is_line m t l n w ht g f (IsLine-at n k w hn h e))
  one_meaning w _ _ (is_table_pin t l ht g f) (is_port n k z hn h e) = absurd (no_table_is_port m t l n w ht g f (IsPort-at n k w z hn h e))
  one_meaning w _ _ (is_table_pin t k ht h e) (is_table_pin u l hu g f) = let r = tables_apart m t u k l ht hu h g (sym e ∙ f) in ap (λ i. TablePin i k) r.0 ∙ ap (TablePin u) r.1

  -- each wire has a meaning
  pub way-table : (p : Path) → IsSpot (levels_of m) p → rest (levels_of m) p ≡ [] → (start tables_in (levels_of m) p < tables_of m) × (way_to_table m (start tables_in (levels_of m) p) ≡ p)
  unfolding tables_of way_to_table
  way-table p s e = way_table (levels_of m) p s e

  pub table_wire-way : (t k : ℕ) (p : Path) → way_to_table m t ≡ p → table_wire m t k ≡ start wires_in (levels_of m) p + k
  unfolding table_wire
  table_wire-way t k p e = ap (λ q. start wires_in (levels_of m) q + k) e

  pub port_at-way : (n k : ℕ) (p : Path) → way_to m n ≡ p → port_at m n k ≡ start wires_in (levels_of m) p + k
  unfolding port_at
  port_at-way n k p e = ap (λ q. start wires_in (levels_of m) q + k) e

  pub line_at-way : (n k : ℕ) (p : Path) → way_to m n ≡ p → line_at m n k ≡ start wires_in (levels_of m) p + (ports_in (rest (levels_of m) p) + k)
  unfolding line_at ports_of
  line_at-way n k p e = ap (λ q. start wires_in (levels_of m) q + (ports_in (rest (levels_of m) q) + k)) e

  pub ports_of-way : (n : ℕ) (p : Path) → way_to m n ≡ p → ports_of m n ≡ ports_in (rest (levels_of m) p)
  unfolding ports_of
  ports_of-way n p e = ap (λ q. ports_in (rest (levels_of m) q)) e

  pub lines_of-way : (n : ℕ) (p : Path) → way_to m n ≡ p → lines_of m n ≡ lines_in (rest (levels_of m) p)
  unfolding lines_of
  lines_of-way n p e = ap (λ q. lines_in (rest (levels_of m) q)) e

  table_means : (w k : ℕ) (p : Path) → IsSpot (levels_of m) p → rest (levels_of m) p ≡ [] → k < wires_in (rest (levels_of m) p) →
      start wires_in (levels_of m) p + k ≡ w → Means m w (TablePin (start tables_in (levels_of m) p) k)
  table_means w k p s e h f =
      let t = way-table p s e in
      let z : wires_in (rest (levels_of m) p) ≡ 7 = ap wires_in e in
      is_table_pin _ k t.0 (omega arith) (sym f ∙ sym (table_wire-way _ k p t.1))

  line_means : (w k : ℕ) (p : Path) → IsSpot (levels_of m) p → IsNode (levels_of m) p → ports_in (rest (levels_of m) p) ≤ k →
      k < wires_in (rest (levels_of m) p) → start wires_in (levels_of m) p + k ≡ w → Means m w
      (Line (node_at m p) (k - ports_in (rest (levels_of m) p)))
  line_means w k p s i g h f =
      let n = way-node m p s i in
      let a = lines_of-way _ p n.1 in
      let b = line_at-way (node_at m p) (k - ports_in (rest (levels_of m) p)) p n.1 in
      is_line _ _ n.0 (omega arith) (omega arith)

  pub node_at-below : (i : ℕ) (p : Path) → IsSpot (levels_of m) (i ∷ p) → 0 < node_at m (i ∷ p)
  unfolding node_at
  node_at-below i p s = below_the_root s

  pin_means : (w k : ℕ) → k < ports_in (levels_of m) → 0 + k ≡ w → Means m w (Pin k)
  unfolding pins_of pin_wire
  pin_means w k h e = is_pin k h (omega arith)

  port_means : (w k j : ℕ) (p : Path) → IsSpot (levels_of m) (j ∷ p) → IsNode (levels_of m) (j ∷ p) →
      k < ports_in (rest (levels_of m) (j ∷ p)) → start wires_in (levels_of m) (j ∷ p) + k ≡ w → Means m w (Port (node_at m (j ∷ p)) k)
  port_means w k j p s i h f =
      let n = way-node m (j ∷ p) s i in
      let a = ports_of-way _ (j ∷ p) n.1 in
      is_port _ k (node_at-below j p s) n.0 (omega arith) (sym f ∙ sym (port_at-way _ k (j ∷ p) n.1))

  port_meant : (w k : ℕ) (p : Path) → IsSpot (levels_of m) p → IsNode (levels_of m) p → k < ports_in (rest (levels_of m) p) → start wires_in (levels_of m) p + k ≡ w → (x : Meaning) × Means m w x
  port_meant w k [] s i h f = (Pin k, pin_means w k h f)
  port_meant w k (j ∷ p) s i h f = (Port (node_at m (j ∷ p)) k, port_means w k j p s i h f)

  meant_at : (w : ℕ) (q : Place) → IsPlaceOf wires_in (levels_of m) w q → (x : Meaning) × Means m w x
  meant_at w q is = ⊎_elim
      (λ e. (_, table_means w q.position q.path is.spot e is.within is.number))
      (λ i. ⊎_elim (λ h. port_meant w q.position q.path is.spot i h is.number)
      (λ h. (_, line_means w q.position q.path is.spot i h is.within is.number))
      (cases_lt q.position (ports_in (rest (levels_of m) q.path))))
      (ends_at (rest (levels_of m) q.path))

  pub meant : (w : ℕ) → w < wires_of m → (x : Meaning) × Means m w x
  unfolding wires_of
  meant w h = meant_at w _ (placed wires_in (levels_of m) w h)

  -- what the code finds of a wire by its place
  module _ (k : ℕ) (p : Path) (spot : IsSpot (levels_of m) p) (within : k < wires_in (rest (levels_of m) p)) where
    pub as_table : (t : ℕ) → rest (levels_of m) p ≡ [] → t ≡ start tables_in (levels_of m) p →
        Means m (start wires_in (levels_of m) p + k) (TablePin t k)
    as_table t e f = subst (λ (u : ℕ). Means m (start wires_in (levels_of m) p + k) (TablePin u k)) (sym f)
        (table_means _ k p spot e within refl)

    pub as_line : (n ports : ℕ) → IsNode (levels_of m) p → n ≡ node_at m p → ports ≡ ports_in (rest (levels_of m) p) → ports ≤ k →
        Means m (start wires_in (levels_of m) p + k) (Line n (k - ports))
    as_line n ports i e f b =
        subst (λ (j : ℕ). Means m (start wires_in (levels_of m) p + k) (Line j (k - ports))) (sym e)
        (subst (λ (r : ℕ). Means m (start wires_in (levels_of m) p + k) (Line (node_at m p) (k - r))) (sym f)
        (line_means _ k p spot i (omega arith) within refl))

    pub as_pin : p ≡ [] → k < ports_in (rest (levels_of m) p) → Means m (start wires_in (levels_of m) p + k) (Pin k)
    as_pin e b = pin_means _ k (subst (λ q. k < ports_in (rest (levels_of m) q)) e b)
        (ap (λ q. start wires_in (levels_of m) q + k) (sym e))

    pub as_port : (n : ℕ) → length p ≢ 0 → IsNode (levels_of m) p → n ≡ node_at m p → k < ports_in (rest (levels_of m) p) →
        Means m (start wires_in (levels_of m) p + k) (Port n k)
    as_port n z i e b = subst (λ (j : ℕ). Means m (start wires_in (levels_of m) p + k) (Port j k)) (sym e) (by p z spot i b)
      where
        by : (q : Path) → length q ≢ 0 → IsSpot (levels_of m) q → IsNode (levels_of m) q → k < ports_in (rest (levels_of m) q) →
            Means m (start wires_in (levels_of m) q + k) (Port (node_at m q) k)
        by [] y s i h = absurd (y refl)
        by (j ∷ q) y s i h = port_means _ k j q s i h refl
