-- A machine has wires, crosspoints and tables.
use Rattle.machine_bench.proofs.Vocabulary.{ℕ, suc, ◌*◌, ◌<◌, [], ◌∷◌, length, arith, Shape, crosses_are, tables_are, pins_are, four_levels}
use Rattle.std.proofs.Math.Nat.{le-mul_of_pos_right}
use Rattle.machine_shape.specs.Vocabulary.{AreFull, Levels, size, tables_in, crosses_in, taps_in, levels_of, wires_of, crosses_of, tables_of}
use Rattle.machine_shape.proofs.Sites.{full_of}

-- a product of two numbers that aren't 0 isn't 0
some_product : (a b : ℕ) → 0 < a → 0 < b → 0 < a * b
some_product a b h k = let e = le-mul_of_pos_right a k in omega arith

some_tables : (ls : Levels) → AreFull ls → 0 < size tables_in ls
some_tables [] f = omega arith
some_tables (l ∷ ls) f =
    let r = some_tables ls (λ k d b. f (suc k) d (omega arith)) in
    let p = some_product l.children (size tables_in ls) (f 0 l (omega arith)).2 r in
    omega arith

some_crosses : (ls : Levels) → AreFull ls → 0 < length ls → 0 < size crosses_in ls
some_crosses [] f h = absurd (omega arith)
some_crosses (l ∷ ls) f h =
    let x = f 0 l (omega arith) in
    let p = some_product (taps_in (l ∷ ls)) l.lines (let q = x.0 in omega arith) x.1 in
    omega arith

module _ (m : Shape) where
  pub has_wires : 0 < wires_of m
  has_wires = let p = pins_are m in omega arith

  pub has_tables : 0 < tables_of m
  has_tables = let r = some_tables (levels_of m) (full_of m) in let t = (tables_are m).0 in omega arith

  pub has_crosses : 0 < crosses_of m
  has_crosses = let r = some_crosses (levels_of m) (full_of m) (let n = four_levels m in omega arith) in let t = (crosses_are m).0 in omega arith
