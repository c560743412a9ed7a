-- What wires are called, and that names tell numbers apart.
use Rattle.std.proofs.Common.{◌≡◌, ◌≢◌, ℕ, ◌+◌, ◌-◌, ◌^◌, ◌<◌, ◌≤◌, Bool, true, false, ltb, List, [], ◌∷◌, ◌++◌, length, get_or, refl, sym, ap, ◌∙◌, arith, ◌==◌}
use Rattle.machine_shape.proofs.Vocabulary.{decimal, ⊎_elim, nat_tests, decimal_injective, Shape}
use Rattle.std.proofs.lemmas.Bool.{cases_lt, lt-ltb, le-ltb, cond-true, cond-false}
use Rattle.machine_shape.specs.Vocabulary.{Levels, Path, Place, IsPlaceOf, IsSpot, rest, start, ports_in, wires_in, nodes_in, tables_in, levels_of, wires_of, nodes_of, tables_of, pins_of, way_to, way_to_table, place_of, ports_of, lines_of, pin_wire, table_wire, port_at, line_at, node_at, numbered, way_name, port_letter, part_name, place_name, node_name, table_name, wire_name, NoDot}
use Rattle.machine_shape.proofs.Walks.{place_from}
use Rattle.machine_shape.proofs.Numbering.{way_is, table_way_is, way_to-root, node_at-root, line_is, port_is, pin_is, table_pin_is}
use Rattle.machine_shape.proofs.Whereabouts.{wire_placed}
use Rattle.machine_shape.proofs.Totals.{four_levels, tables_are}
use Rattle.machine_shape.proofs.Naming.{node_steps, wire_steps, short_steps, node_name-way, table_name-way, wire_name-place}
use Rattle.machine_shape.proofs.Called.{AreShort, letters, letters_undotted, way-text, one_reading, part_undotted, no_root_name}
use Rattle.machine_shape.proofs.CalledTables.{called, position_small}

-- the parts of names
part-port : (letter : ℕ) (ls : Levels) (k : ℕ) → 0 < nodes_in ls → k < ports_in ls → part_name letter ls k ≡ numbered letter k
part-port letter [] k z h = absurd (omega arith)
part-port letter (l ∷ ls) k z h = cond-true (ltb k l.ports) _ _ (lt-ltb k l.ports h)

part-line : (letter : ℕ) (ls : Levels) (k : ℕ) → 0 < nodes_in ls → part_name letter ls (ports_in ls + k) ≡ numbered 108 k
part-line letter [] k z = absurd (omega arith)
part-line letter (l ∷ ls) k z =
    let off : l.ports + k - l.ports ≡ k = omega arith in
    cond-false (ltb (l.ports + k) l.ports) _ _ (le-ltb (l.ports + k) l.ports (omega arith)) ∙ ap (numbered 108) off

part-input : (letter : ℕ) (ls : Levels) (k : ℕ) → ls ≡ [] → k < 6 → part_name letter ls k ≡ numbered 105 k
part-input letter ls k e h = ap (λ (s : Levels). part_name letter s k) e ∙ cond-false (k == 6) _ _ (grind (arith, nat_tests))

part-output : (letter : ℕ) (ls : Levels) → ls ≡ [] → part_name letter ls 6 ≡ 113 ∷ []
part-output letter ls e = ap (λ (s : Levels). part_name letter s 6) e

same_number : (a k j : ℕ) → k < 2 ^ 64 → j < 2 ^ 64 → numbered a k ≡ numbered a j → k ≡ j
same_number a k j h g e = let d : decimal k ≡ decimal j = cc in decimal_injective k j h g d

other_letter : (a b : ℕ) (x y : List ℕ) → a ≢ b → a ∷ x ≡ b ∷ y → ⊥
other_letter a b x y h e = h (let f : get_or (a ∷ x) 0 0 ≡ get_or (b ∷ y) 0 0 = ap (λ (v : List ℕ). get_or v 0 0) e in f)

table_part_one : (k j : ℕ) (b c : Bool) → (k == 6) ≡ b → (j == 6) ≡ c → k < 2 ^ 64 → j < 2 ^ 64 → part_name 111 [] k ≡ part_name 111 [] j → k ≡ j
table_part_one k j true true e f h g n = grind (arith, nat_tests)
table_part_one k j true false e f h g n = absurd (other_letter 113 105 [] (decimal j) (λ x. omega arith) (sym (cond-true (k == 6) _ _ e) ∙ n ∙ cond-false (j == 6) _ _ f))
table_part_one k j false true e f h g n = absurd (other_letter 105 113 (decimal k) [] (λ x. omega arith) (sym (cond-false (k == 6) _ _ e) ∙ n ∙ cond-true (j == 6) _ _ f))
table_part_one k j false false e f h g n = same_number 105 k j h g (sym (cond-false (k == 6) _ _ e) ∙ n ∙ cond-false (j == 6) _ _ f)

part_one : (letter : ℕ) (ls : Levels) (k j : ℕ) → letter ≢ 108 → k < 2 ^ 64 → j < 2 ^ 64 → part_name letter ls k ≡ part_name letter ls j → k ≡ j
part_one letter [] k j d h g n = table_part_one k j (k == 6) (j == 6) refl refl h g n
part_one letter (l ∷ ls) k j d h g n = ⊎_elim
    (λ a. ⊎_elim
    (λ b. same_number letter k j h g (sym (part-port letter (l ∷ ls) k (omega arith) a) ∙ n ∙ part-port letter (l ∷ ls) j (omega arith) b))
    (λ b. absurd (other_letter letter 108 _ _ d (sym (part-port letter (l ∷ ls) k (omega arith) a) ∙ n ∙ past j b)))
    (cases_lt j l.ports))
    (λ a. ⊎_elim
    (λ b. absurd (other_letter letter 108 _ _ d (sym (part-port letter (l ∷ ls) j (omega arith) b) ∙ sym n ∙ past k a)))
    (λ b. let s = same_number 108 (k - l.ports) (j - l.ports) (omega arith) (omega arith) (sym (past k a) ∙ n ∙ past j b) in omega arith)
    (cases_lt j l.ports))
    (cases_lt k l.ports)
  where
    past : (x : ℕ) → l.ports ≤ x → part_name letter (l ∷ ls) x ≡ numbered 108 (x - l.ports)
    past x y = cond-false (ltb x l.ports) _ _ (le-ltb x l.ports y)

port_letter-other : (p : Path) → port_letter p ≢ 108
port_letter-other [] e = omega arith
port_letter-other (i ∷ p) e = omega arith

no_dot_port : (p : Path) → port_letter p ≢ 46
no_dot_port [] e = omega arith
no_dot_port (i ∷ p) e = omega arith

-- a place's name tells its way
one_way : (ls : Levels) (p q : Path) (a b : List ℕ) → length ls ≤ 4 → IsSpot ls p → IsSpot ls q → AreShort p → AreShort q → NoDot a → NoDot b → way_name p ++ 46 ∷ a ≡ way_name q ++ 46 ∷ b → (p ≡ q) × (a ≡ b)
one_way ls [] [] a b l s t h g na nb e = (refl, cc)
one_way ls [] (j ∷ q) a b l s t h g na nb e = absurd (no_root_name _ _ (sym e))
one_way ls (i ∷ p) [] a b l s t h g na nb e = absurd (no_root_name _ _ e)
one_way ls (i ∷ p) (j ∷ q) a b l s t h g na nb e = one_reading ls letters (i ∷ p) (j ∷ q) a b letters_undotted l s t h g na nb (sym (way-text i p a) ∙ e ∙ way-text j q b)

module _ (m : Shape) where
  four : length (levels_of m) ≤ 4
  four = let f = four_levels m in omega arith

  pub one_wire : (w u : ℕ) → w < wires_of m → u < wires_of m → wire_name m w ≡ wire_name m u → w ≡ u
  one_wire w u hw hu e =
      let a = wire_placed m w hw in
      let b = wire_placed m u hu in
      let s = wire_steps m w hw in
      let t = wire_steps m u hu in
      let p : Path = (place_of m w).path in
      let q : Path = (place_of m u).path in
      let x = one_way (levels_of m) p q _ _ four a.spot b.spot s.0 t.0
      (part_undotted (port_letter p) (rest (levels_of m) p) (place_of m w).position (no_dot_port p) (let f = s.1 in omega arith))
      (part_undotted (port_letter q) (rest (levels_of m) q) (place_of m u).position (no_dot_port q) (let f = t.1 in omega arith))
      (sym (wire_name-place m w) ∙ e ∙ wire_name-place m u) in
      let y = part_one (port_letter p) (rest (levels_of m) p) (place_of m w).position (place_of m u).position (port_letter-other p) (let f = s.1 in omega arith) (let f = t.1 in omega arith)
      (x.1 ∙ ap (λ (k : Path). part_name (port_letter k) (rest (levels_of m) k) (place_of m u).position) (sym x.0)) in
      sym a.number ∙ ap (λ (k : Path). start wires_in (levels_of m) k + (place_of m w).position) x.0 ∙ ap (λ (k : ℕ). start wires_in (levels_of m) q + k) y ∙ b.number

  pub one_table : (t u : ℕ) → t < tables_of m → u < tables_of m → table_name m t ≡ table_name m u → t ≡ u
  one_table t u ht hu e =
      let a = called m t ht in
      let b = called m u hu in
      let x = one_reading (levels_of m) letters a.path b.path (numbered 116 a.position) (numbered 116 b.position) letters_undotted four a.spot b.spot (short_steps m a.path a.spot) (short_steps m b.path b.spot) (position_small m t a ht) (position_small m u b hu)
      (sym a.named ∙ e ∙ b.named) in
      let k = tables_are m in
      let y = same_number 116 a.position b.position (let n = a.number in omega arith) (let n = b.number in omega arith) x.1 in
      sym a.number ∙ ap (λ (k : Path). start tables_in (levels_of m) k + a.position) x.0 ∙ ap (λ (k : ℕ). start tables_in (levels_of m) b.path + k) y ∙ b.number

  pub one_node : (n k : ℕ) → n < nodes_of m → k < nodes_of m → node_name m n ≡ node_name m k → n ≡ k
  one_node n k hn hk e =
      let a = way_is m n hn in
      let b = way_is m k hk in
      let x = one_way (levels_of m) (way_to m n) (way_to m k) [] [] four a.0 b.0 (node_steps m n hn) (node_steps m k hk) tt tt (ap (λ s. s ++ 46 ∷ []) (sym (node_name-way m n) ∙ e ∙ node_name-way m k)) in
      sym a.2 ∙ ap (node_at m) x.0 ∙ b.2

  -- what wires are called
  at_place : (w : ℕ) (q : Place) → IsPlaceOf wires_in (levels_of m) w q → place_of m w ≡ q
  unfolding place_of
  at_place w q is = (place_from wires_in is).1

  place_named : (w : ℕ) (q : Place) → IsPlaceOf wires_in (levels_of m) w q → wire_name m w ≡ way_name q.path ++ 46 ∷ part_name (port_letter q.path) (rest (levels_of m) q.path) q.position
  place_named w q is = wire_name-place m w ∙ ap (place_name (levels_of m)) (at_place w q is)

  pub root_name : node_name m 0 ≡ 114 ∷ []
  root_name = node_name-way m 0 ∙ ap way_name (way_to-root m)

  ports-way : (n : ℕ) → ports_of m n ≡ ports_in (rest (levels_of m) (way_to m n))
  unfolding ports_of
  ports-way n = refl

  root_ports : pins_of m ≡ ports_in (levels_of m)
  unfolding pins_of
  root_ports = refl

  pub pin_named : (k : ℕ) → k < pins_of m → wire_name m (pin_wire m k) ≡ node_name m 0 ++ 46 ∷ numbered 112 k
  pin_named k h =
      place_named (pin_wire m k) _ (pin_is m k h) ∙ ap (λ s. 114 ∷ 46 ∷ s) (part-port 112 (levels_of m) k (let f = four_levels m in has_nodes (levels_of m) (omega arith)) (let e = root_ports in omega arith)) ∙ ap (λ s. s ++ 46 ∷ numbered 112 k) (sym root_name)
    where
      has_nodes : (ls : Levels) → 0 < length ls → 0 < nodes_in ls
      has_nodes [] h = h
      has_nodes (l ∷ ls) h = omega arith

  pub line_named : (n k : ℕ) → n < nodes_of m → k < lines_of m n → wire_name m (line_at m n k) ≡ node_name m n ++ 46 ∷ numbered 108 k
  line_named n k h b =
      place_named (line_at m n k) _ (line_is m n k h b)
      ∙ ap (λ j. way_name (way_to m n) ++ 46 ∷ part_name (port_letter (way_to m n)) (rest (levels_of m) (way_to m n)) (j + k)) (ports-way n)
      ∙ ap (λ s. way_name (way_to m n) ++ 46 ∷ s) (part-line (port_letter (way_to m n)) (rest (levels_of m) (way_to m n)) k (way_is m n h).1)
      ∙ ap (λ s. s ++ 46 ∷ numbered 108 k) (sym (node_name-way m n))

  letter_below : (p : Path) (n : ℕ) → 0 < n → node_at m p ≡ n → port_letter p ≡ 111
  letter_below [] n z e = absurd (let r = node_at-root m in omega arith)
  letter_below (i ∷ p) n z e = refl

  pub port_named : (n k : ℕ) → 0 < n → n < nodes_of m → k < ports_of m n → wire_name m (port_at m n k) ≡ node_name m n ++ 46 ∷ numbered 111 k
  port_named n k z h b =
      place_named (port_at m n k) _ (port_is m n k h b)
      ∙ ap (λ s. way_name (way_to m n) ++ 46 ∷ s) (part-port (port_letter (way_to m n)) (rest (levels_of m) (way_to m n)) k (way_is m n h).1 (let e = ports-way n in omega arith))
      ∙ ap (λ j. way_name (way_to m n) ++ 46 ∷ numbered j k) (letter_below (way_to m n) n z (way_is m n h).2)
      ∙ ap (λ s. s ++ 46 ∷ numbered 111 k) (sym (node_name-way m n))

  pub input_named : (t k : ℕ) → t < tables_of m → k < 6 → wire_name m (table_wire m t k) ≡ table_name m t ++ 46 ∷ numbered 105 k
  input_named t k h b =
      place_named (table_wire m t k) _ (table_pin_is m t k h (omega arith))
      ∙ ap (λ s. way_name (way_to_table m t) ++ 46 ∷ s) (part-input (port_letter (way_to_table m t)) (rest (levels_of m) (way_to_table m t)) k (table_way_is m t h).1 b)
      ∙ ap (λ s. s ++ 46 ∷ numbered 105 k) (sym (table_name-way m t))

  pub output_named : (t : ℕ) → t < tables_of m → wire_name m (table_wire m t 6) ≡ table_name m t ++ 46 ∷ 113 ∷ []
  output_named t h =
      place_named (table_wire m t 6) _ (table_pin_is m t 6 h (omega arith))
      ∙ ap (λ s. way_name (way_to_table m t) ++ 46 ∷ s) (part-output (port_letter (way_to_table m t)) (rest (levels_of m) (way_to_table m t)) (table_way_is m t h).1)
      ∙ ap (λ s. s ++ 46 ∷ 113 ∷ []) (sym (table_name-way m t))
