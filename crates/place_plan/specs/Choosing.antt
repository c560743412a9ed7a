-- A choice of ports and lines for nets, as it is laid on the tree of crossbars.
use Rattle.std.specs.Prelude.{◌≡◌, ◌≢◌, ℕ, ◌<◌, ◌==◌, ◌&&◌, List, [], ◌∷◌, if◌then◌else◌}
use Rattle.std.specs.List.{All, AllPairs, Contains}
use Rattle.machine_shape.specs.{declared.Shape.Shape, Shape.crosses_of, Shape.ends_of, Shape.IsLine, Shape.IsPort}
use Rattle.machine_meaning.specs.Defects.{Defects, IsFreeWire, IsFreeCross}
use Rattle.place_plan.specs.declared.{short.Port.Port, short.Visit.Visit, tree.NetSide.NetSide}
use Rattle.place_plan.specs.{Strands.IsAt, Strands.tap_of, Room.CrossesAt, Room.VisitsAt, Room.HasPort, Room.visit_for}

-- the port of a net at a node, by a list
abbrev pub port_in : List Port → ℕ → ℕ → ℕ
port_in [] n k = 0
port_in (p ∷ ps) n k = if (p.node.0 == n) && (p.net.0 == k) then p.wire.0 else port_in ps n k

-- the net has the line at the node
abbrev pub HasLine : List Visit → ℕ → ℕ → ℕ → Type 0
HasLine vs n k w = Contains vs (visit_for n k w)

-- the crosspoint of the tap and the line is there, and free
abbrev pub HasFreeCross : Shape → Defects → ℕ → ℕ → Type 0
HasFreeCross m d tap line = (x : ℕ) × (x < crosses_of m) × (ends_of m x ≡ (tap, line)) × IsFreeCross m d x

-- a line for each net that visits a node, and for each net that crosses it its port
pub record IsChoice (m : Shape) (d : Defects) (count : ℕ) (terminal : ℕ → ℕ → Type 0) (ports : List Port) (vs : List Visit) : Type 0 where
  -- each net that visits a node has a line there, which is a free line of the node
  pub given : (n k : ℕ) → VisitsAt m count terminal n k → (w : ℕ) × HasLine vs n k w
  pub each : All (λ v. VisitsAt m count terminal v.node.0 v.net.0 × IsLine m v.node.0 v.line.0 × IsFreeWire d v.line.0) vs
  -- one line for each, and no line twice
  pub nets_apart : AllPairs (λ v u. v.node.0 ≡ u.node.0 → v.net.0 ≢ u.net.0) vs
  pub lines_apart : AllPairs (λ v u. v.line.0 ≢ u.line.0) vs
  -- the j-th net that crosses a node has the j-th free port of it
  pub are_ports : (n k : ℕ) → CrossesAt m count terminal n k → HasPort m d count terminal n k (port_in ports n k)
      × IsPort m n (port_in ports n k) × IsFreeWire d (port_in ports n k)
  pub ports_apart : (n k l : ℕ) → CrossesAt m count terminal n k → CrossesAt m count terminal n l →
      port_in ports n k ≡ port_in ports n l → k ≡ l
  -- the crosspoints of a net's line and its taps are free
  pub serves : All (λ v. (t : ℕ) (s : NetSide) → terminal v.net.0 t → IsAt m v.node.0 t s →
      HasFreeCross m d (tap_of (λ c. port_in ports c v.net.0) v.node.0 s) v.line.0) vs
