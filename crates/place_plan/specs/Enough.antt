-- Parts that are room enough for a network, whatever else is wrong with a machine.
use Rattle.std.specs.Prelude.{◌≢◌, ℕ, ◌+◌, ◌<◌, ◌≤◌, List, length}
use Rattle.std.specs.List.{All, AllPairs}
use Rattle.machine_shape.specs.declared.Shape.{Shape}
use Rattle.machine_shape.specs.Shape.{nodes_of, tables_of, pins_of, pin_wire, IsLine, IsPort}
use Rattle.machine_meaning.specs.Vocabulary.{Faults, IsSoundWire, IsSoundTable, IsWholeLine, IsServed, Defects, IsOpenLine, IsSeated}
use Rattle.machine_meaning.specs.Vocabulary.{IsSoundCrossOf, IsStanding}
use Rattle.map_network.specs.declared.network.Network.{Network}
use Rattle.place_plan.specs.{Plans.IsFreeTableOf, Plans.IsFreePinOf, Plans.nets_in, Room.IsFreePort}

-- so many different numbers have P
pub record AtLeast (P : ℕ → Type 0) (count : ℕ) : Type 0 where
  pub each : List ℕ
  pub have : All P each
  pub different : AllPairs (λ a b. a ≢ b) each
  pub many : count ≤ length each

abbrev pub IsOpenLineOf : Shape → Defects → ℕ → ℕ → Type 0
IsOpenLineOf m d n w = IsLine m n w × IsOpenLine m d w

-- As many tables and pins are free as the network has tables, and inputs and outputs. At each node as many lines are open, and
-- below the root as many ports are free, as it has nets.
pub record HasEnough (m : Shape) (d : Defects) (n : Network) : Type 0 where
  pub tables : AtLeast (IsFreeTableOf m d) (length n.tables)
  pub pins : AtLeast (IsFreePinOf m d) (n.inputs + length n.outputs)
  pub lines : (k : ℕ) → k < nodes_of m → AtLeast (IsOpenLineOf m d k) (nets_in n)
  pub ports : (k : ℕ) → 0 < k → k < nodes_of m → AtLeast (IsFreePort m d k) (nets_in n)

abbrev pub IsSoundTableOf : Shape → Faults → ℕ → Type 0
IsSoundTableOf m f t = (t < tables_of m) × IsSoundTable m f t

abbrev pub IsSoundPinOf : Shape → Faults → ℕ → Type 0
IsSoundPinOf m f k = (k < pins_of m) × IsSoundWire m f (pin_wire m k)

abbrev pub IsWholeLineOf : Shape → Faults → ℕ → ℕ → Type 0
IsWholeLineOf m f n w = IsLine m n w × IsWholeLine m f w

abbrev pub IsSoundPort : Shape → Faults → ℕ → ℕ → Type 0
IsSoundPort m f n w = IsPort m n w × IsSoundWire m f w

-- Each node is served, and as many tables and pins are sound as the network has tables, and inputs and outputs. At each node as
-- many lines are whole, and below the root as many ports are sound, as it has nets.
pub record HasSoundParts (m : Shape) (f : Faults) (n : Network) : Type 0 where
  pub served : (k : ℕ) → k < nodes_of m → IsServed m f k
  pub tables : AtLeast (IsSoundTableOf m f) (length n.tables)
  pub pins : AtLeast (IsSoundPinOf m f) (n.inputs + length n.outputs)
  pub lines : (k : ℕ) → k < nodes_of m → AtLeast (IsWholeLineOf m f k) (nets_in n)
  pub ports : (k : ℕ) → 0 < k → k < nodes_of m → AtLeast (IsSoundPort m f k) (nets_in n)

-- a sound table that is seated among standing wires
abbrev pub IsStandingTableOf : Shape → Faults → ℕ → Type 0
IsStandingTableOf m f t = (t < tables_of m) × IsSoundTable m f t × IsSeated m (IsStanding m f) (IsSoundCrossOf m f) t

abbrev pub IsStandingLineOf : Shape → Faults → ℕ → ℕ → Type 0
IsStandingLineOf m f n w = IsLine m n w × IsWholeLine m f w × IsStanding m f w

abbrev pub IsStandingPort : Shape → Faults → ℕ → ℕ → Type 0
IsStandingPort m f n w = IsPort m n w × IsStanding m f w

-- The same of standing parts, whether nodes are served or not: as many sound tables are seated among standing wires as the network
-- has tables, and as many pins are sound as it has inputs and outputs. At each node as many whole lines stand, and below the root as
-- many ports stand, as it has nets.
pub record HasStandingRoom (m : Shape) (f : Faults) (n : Network) : Type 0 where
  pub tables : AtLeast (IsStandingTableOf m f) (length n.tables)
  pub pins : AtLeast (IsSoundPinOf m f) (n.inputs + length n.outputs)
  pub lines : (k : ℕ) → k < nodes_of m → AtLeast (IsStandingLineOf m f k) (nets_in n)
  pub ports : (k : ℕ) → 0 < k → k < nodes_of m → AtLeast (IsStandingPort m f k) (nets_in n)
