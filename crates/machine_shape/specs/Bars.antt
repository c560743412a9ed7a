-- A node's crossbar as the code keeps it.
use Rattle.std.specs.Prelude.{◌≡◌, ℕ, ◌+◌, ◌*◌, ◌/◌, ◌%◌, ◌-◌, ◌<◌, ◌≤◌, if◌then◌else◌, nat_lt}
use Rattle.machine_shape.specs.declared.{Shape.Shape, way.Crossbar.Crossbar}
use Rattle.machine_shape.specs.Shape.{wires_of, ports_of, lines_of, taps_of, line_at, port_at, tap_at}
use Rattle.machine_shape.specs.Walk.{Levels, Path, rest, next, start, size, children_in, ports_in, lines_in, wires_in}

-- the crossbar of a node by the levels from it on, and its first wire
pub record IsBarFrom (ls : Levels) (wire : ℕ) (b : Crossbar) : Type 0 where
  pub first : b.first ≡ wire
  pub ports : b.ports ≡ ports_in ls
  pub lines : b.lines ≡ lines_in ls
  pub children : b.children ≡ children_in ls
  pub each : b.each ≡ ports_in (next ls)
  pub step : b.step ≡ size wires_in (next ls)

-- the crossbar of the node at the end of a way
abbrev pub IsBarAt : Levels → Path → Crossbar → Type 0
IsBarAt ls p b = IsBarFrom (rest ls p) (start wires_in ls p) b

-- its wires and those below it are numbers below this, and a child has no more ports than wires
pub record FitsBelow (b : Crossbar) (most : ℕ) : Type 0 where
  pub all : b.first + b.ports + b.lines + b.children * b.step ≤ most
  pub each : b.each ≤ b.step

-- the wire of the tap at a position
abbrev pub tap_by : Crossbar → ℕ → ℕ
tap_by b a =
    if nat_lt a b.ports then b.first + a else b.first + b.ports + b.lines + (a - b.ports) / b.each * b.step + (a - b.ports) % b.each

-- the crossbar of a node, whose wires it gives by their positions
pub record IsNodeBar (m : Shape) (n : ℕ) (b : Crossbar) : Type 0 where
  pub lines : b.lines ≡ lines_of m n
  pub ports : b.ports ≡ ports_of m n
  pub taps : b.ports + b.children * b.each ≡ taps_of m n
  pub some : 0 < b.lines
  pub fits : FitsBelow b (wires_of m)
  pub few : wires_of m ≤ 1310720
  pub line : (k : ℕ) → line_at m n k ≡ b.first + b.ports + k
  pub port : (k : ℕ) → port_at m n k ≡ b.first + k
  pub tap : (a : ℕ) → a < taps_of m n → tap_at m n a ≡ tap_by b a
