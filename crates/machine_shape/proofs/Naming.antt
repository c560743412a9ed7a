-- Names, of which every number has at most seven digits.
use Rattle.std.proofs.Common.{◌≡◌, ℕ, zero, suc, ◌<◌, ◌≤◌, List, [], ◌∷◌, ◌++◌, length, get_or, refl, sym, ap, ◌∙◌, arith, append_assoc, All}
use Rattle.machine_shape.proofs.Vocabulary.{le-mul_of_pos_right, Shape}
use Rattle.machine_shape.specs.Vocabulary.{AreFull, Levels, Path, IsSpot, stop, step, rest, size, start, wires_in, levels_of, wires_of, nodes_of, tables_of, way_to, way_to_table, place_of, way_name, port_letter, part_name, place_name, node_name, table_name, wire_name}
use Rattle.machine_shape.proofs.Running.{start_small}
use Rattle.machine_shape.proofs.Sites.{full_of}
use Rattle.machine_shape.proofs.Numbering.{way_is, table_way_is}
use Rattle.machine_shape.proofs.Whereabouts.{wire_placed}
use Rattle.machine_shape.proofs.Totals.{wires_are}

size_some : (ls : Levels) → AreFull ls → 0 < size wires_in ls
size_some [] f = omega arith
size_some (l ∷ ls) f = let p = (f 0 l (omega arith)).0 in omega arith

-- a step is no more than the first wire at the way's end
steps_small : {ls : Levels} {p : Path} → IsSpot ls p → AreFull ls → (k d : ℕ) → k < length p → get_or p k d ≤ start wires_in ls p
steps_small stop f k d b = absurd (omega arith)
steps_small (step {l} {ls} {i} h s) f zero d b = let z = le-mul_of_pos_right i (size_some ls (λ k d b. f (suc k) d (omega arith))) in omega arith
steps_small (step {l} {ls} {i} h s) f (suc k) d b = let r = steps_small s (λ k d b. f (suc k) d (omega arith)) k d (omega arith) in omega arith

module _ (m : Shape) where
  pub short_steps : (p : Path) → IsSpot (levels_of m) p → All (λ i. i < 10000000) p
  short_steps p s k d b = let r = steps_small s (full_of m) k d b in let z = start_small wires_in s in let w = wires_are m in omega arith

  pub node_steps : (n : ℕ) → n < nodes_of m → All (λ i. i < 10000000) (way_to m n)
  node_steps n h = short_steps (way_to m n) (way_is m n h).0

  pub table_steps : (t : ℕ) → t < tables_of m → All (λ i. i < 10000000) (way_to_table m t)
  table_steps t h = short_steps (way_to_table m t) (table_way_is m t h).0

  pub wire_steps : (w : ℕ) → w < wires_of m → All (λ i. i < 10000000) (place_of m w).path × ((place_of m w).position < 10000000)
  wire_steps w h =
      let r = wire_placed m w h in
      let n = r.number in let k = wires_are m in (short_steps (place_of m w).path r.spot, omega arith)

  pub node_name-way : (n : ℕ) → node_name m n ≡ way_name (way_to m n)
  unfolding node_name
  node_name-way n = refl

  pub table_name-way : (t : ℕ) → table_name m t ≡ way_name (way_to_table m t)
  unfolding table_name
  table_name-way t = refl

  pub wire_name-place : (w : ℕ) → wire_name m w ≡ place_name (levels_of m) (place_of m w)
  unfolding wire_name
  wire_name-place w = refl

  -- the name of a wire, as it is written
  pub wire_named : (w : ℕ) (p : Path) (ls : Levels) (k letter : ℕ) (a b c : List ℕ) → p ≡ (place_of m w).path → ls ≡ rest (levels_of m) p → k ≡ (place_of m w).position → letter ≡ port_letter p →
      a ≡ way_name p → b ≡ a ++ 46 ∷ [] → c ≡ b ++ part_name letter ls k → c ≡ wire_name m w
  wire_named w p ls k letter a b c e f g h x y z =
      let named : place_name (levels_of m) (record { path = p; position = k }) ≡ place_name (levels_of m) (place_of m w) = ap (place_name (levels_of m)) (ap (λ (q : Path). record { path = q; position = k }) e ∙ ap (λ (j : ℕ). record { path = (place_of m w).path; position = j }) g) in
      z ∙ ap (λ s. s ++ part_name letter ls k) (y ∙ ap (λ s. s ++ 46 ∷ []) x) ∙ append_assoc (way_name p) (46 ∷ []) (part_name letter ls k)
      ∙ ap (λ j. way_name p ++ 46 ∷ part_name j ls k) h ∙ ap (λ j. way_name p ++ 46 ∷ part_name (port_letter p) j k) f
      ∙ named ∙ sym (wire_name-place w)
