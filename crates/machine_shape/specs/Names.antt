-- How the nodes, tables and wires of a machine are called.
use Rattle.std.specs.Prelude.{ℕ, ◌-◌, ◌==◌, nat_lt, if◌then◌else◌, List, [], ◌∷◌, ◌++◌}
use Rattle.std.specs.Fmt.{decimal}
use Rattle.machine_shape.specs.{declared.Shape.Shape, Shape.levels_of, Shape.way_to, Shape.way_to_table, Shape.place_of}
use Rattle.machine_shape.specs.Walk.{Levels, Path, Place, rest}

-- a letter and a number, as `c1`
abbrev pub numbered : ℕ → ℕ → List ℕ
numbered letter n = letter ∷ decimal n

-- a dot and the child's letter and position, at each step, as `.c1.h2`
abbrev pub steps_name : List ℕ → Path → List ℕ
steps_name letters [] = []
steps_name [] (i ∷ p) = []
steps_name (c ∷ letters) (i ∷ p) = 46 ∷ numbered c i ++ steps_name letters p

-- c, h and t, of chips, hextants and tables
abbrev pub inner_letters : List ℕ
inner_letters = 99 ∷ 104 ∷ 116 ∷ []

-- the name of the node or table at the end of a way: `r`, or as `m0.c1.h2.t3`
abbrev pub way_name : Path → List ℕ
way_name [] = 114 ∷ []
way_name (i ∷ p) = numbered 109 i ++ steps_name inner_letters p

-- the letter of a node's ports: the root has pins, as `p0`, where another node has ports, as `o0`
abbrev pub port_letter : Path → ℕ
port_letter [] = 112
port_letter (i ∷ p) = 111

-- the part of a wire's name that follows its table's, `i0` to `i5` and `q`, or its node's: a port's, or a line's as `l0`
abbrev pub part_name : ℕ → Levels → ℕ → List ℕ
part_name letter [] k = if k == 6 then 113 ∷ [] else numbered 105 k
part_name letter (l ∷ ls) k = if nat_lt k l.ports then numbered letter k else numbered 108 (k - l.ports)

-- the name of the wire at a place
abbrev pub place_name : Levels → Place → List ℕ
place_name ls q = way_name q.path ++ 46 ∷ part_name (port_letter q.path) (rest ls q.path) q.position

unfoldable pub node_name : Shape → ℕ → List ℕ
node_name m n = way_name (way_to m n)

unfoldable pub table_name : Shape → ℕ → List ℕ
table_name m t = way_name (way_to_table m t)

unfoldable pub wire_name : Shape → ℕ → List ℕ
wire_name m w = place_name (levels_of m) (place_of m w)
