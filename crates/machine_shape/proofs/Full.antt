-- Counts without a 0.
use Rattle.std.proofs.Common.{◌≡◌, ℕ, zero, suc, ◌<◌, ◌≤◌, false, nat_eq, List, [], ◌∷◌, length, get_or, arith}
use Rattle.machine_shape.proofs.Vocabulary.{nat_tests, mul-le-mul_left, Counts, Level}
use Rattle.machine_shape.specs.declared.Field.{Field}
use Rattle.machine_shape.specs.declared.Field.TheVariants.{Modules, Chips, Hextants, Tables, Ports, Lines, Pins}
use Rattle.machine_shape.specs.Vocabulary.{levels_from, AreFull, IsFull, HasZero, Levels, size, wires_in, nodes_in}

-- no element is 0, at each place
pub positive : (xs : List ℕ) → ((k d : ℕ) → 0 ≤ k → k < length xs → nat_eq (get_or xs k d) 0 ≡ false) → (k : ℕ) → k < length xs → 0 < get_or xs k 0
positive xs h k b = let e = h k 0 (omega arith) b in grind (arith, nat_tests)

pub full_from : (c : Counts) → 0 < c.modules → 0 < c.chips → 0 < c.hextants → 0 < c.tables → ((k : ℕ) → k < 3 → 0 < get_or c.ports k 0) → ((k : ℕ) → k < 4 → 0 < get_or c.lines k 0) → 0 < c.pins → IsFull c
unfolding levels_from
full_from c m p h t ports lines pins zero d b = (pins, lines 0 (omega arith), m)
full_from c m p h t ports lines pins (suc zero) d b = (ports 0 (omega arith), lines 1 (omega arith), p)
full_from c m p h t ports lines pins (suc (suc zero)) d b = (ports 1 (omega arith), lines 2 (omega arith), h)
full_from c m p h t ports lines pins (suc (suc (suc zero))) d b = (ports 2 (omega arith), lines 3 (omega arith), t)
full_from c m p h t ports lines pins (suc (suc (suc (suc k)))) d b = absurd (omega arith)

-- any level
nth : Level
nth = record { ports = 0; lines = 0; children = 0 }

pub no_zero : (c : Counts) → length c.ports ≡ 3 → length c.lines ≡ 4 → IsFull c → (field : Field) → ¬ HasZero c field
unfolding levels_from
no_zero c p l full Modules e = let f = (full 0 nth (omega arith)).2 in omega arith
no_zero c p l full Chips e = let f = (full 1 nth (omega arith)).2 in omega arith
no_zero c p l full Hextants e = let f = (full 2 nth (omega arith)).2 in omega arith
no_zero c p l full Tables e = let f = (full 3 nth (omega arith)).2 in omega arith
no_zero c p l full Ports e = no_port e.0 e.1 e.2
  where
    no_port : (k : ℕ) → k < length c.ports → get_or c.ports k 0 ≡ 0 → ⊥
    no_port zero b e = let f = (full 1 nth (omega arith)).0 in omega arith
    no_port (suc zero) b e = let f = (full 2 nth (omega arith)).0 in omega arith
    no_port (suc (suc zero)) b e = let f = (full 3 nth (omega arith)).0 in omega arith
    no_port (suc (suc (suc k))) b e = omega arith
no_zero c p l full Lines e = no_line e.0 e.1 e.2
  where
    no_line : (k : ℕ) → k < length c.lines → get_or c.lines k 0 ≡ 0 → ⊥
    no_line zero b e = let f = (full 0 nth (omega arith)).1 in omega arith
    no_line (suc zero) b e = let f = (full 1 nth (omega arith)).1 in omega arith
    no_line (suc (suc zero)) b e = let f = (full 2 nth (omega arith)).1 in omega arith
    no_line (suc (suc (suc zero))) b e = let f = (full 3 nth (omega arith)).1 in omega arith
    no_line (suc (suc (suc (suc k)))) b e = omega arith
no_zero c p l full Pins e = let f = (full 0 nth (omega arith)).0 in omega arith

-- each node has a line of its own, so there are no more nodes than wires
pub fewer_nodes : (ls : Levels) → AreFull ls → size nodes_in ls ≤ size wires_in ls
fewer_nodes [] f = omega arith
fewer_nodes (l ∷ ls) f =
    let below : size nodes_in ls ≤ size wires_in ls = fewer_nodes ls (λ k d b. f (suc k) d (omega arith)) in
    let each = mul-le-mul_left l.children below in
    let own = (f 0 l (omega arith)).1 in omega arith
