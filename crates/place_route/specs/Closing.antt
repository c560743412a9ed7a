-- Which crosspoints are closed for the lines and taps of nets, and which tables are switched on.
use Rattle.std.specs.Prelude.{◌≡◌, ◌⊎◌, ℕ, ◌+◌, ◌<◌, ◌≤◌, true, List, length, Option, Some, IsSome, slice_index_or}
use Rattle.std.specs.FinSet as set
use Rattle.std.specs.BTreeMap.{BTreeMap}
use Rattle.machine_shape.specs.{declared.Shape.Shape, Shape.wires_of, Shape.crosses_of, Shape.ends_of, Shape.node_of, Shape.parent_of}
use Rattle.machine_shape.specs.declared.Table.{Table}
use Rattle.machine_config.specs.Configuration.{Configuration, is_closed, setting_of}
use Rattle.map_network.specs.{declared.network.NetTable.NetTable, Networks.no_table}
use Rattle.place_route.specs.{Layouts.setting_in, Owners.owner_at, Owners.line_in}

abbrev pub no_seat : Table
no_seat = record { 0 = 0 }

-- The crosspoints with the property are closed, at most so many of them that were open. Nothing else changes.
pub record Closes (joint : ℕ → Type 0) (most : ℕ) (old new : Configuration) : Type 0 where
  pub only : (x : ℕ) → is_closed new x ≡ true → (is_closed old x ≡ true) ⊎ joint x
  pub each : (x : ℕ) → joint x → is_closed new x ≡ true
  pub kept : (x : ℕ) → is_closed old x ≡ true → is_closed new x ≡ true
  pub few : set.len new.closed ≤ set.len old.closed + most
  pub rest : new ≡ record old { closed = new.closed }

-- all lines of the map are wires of the machine
abbrev pub AreLinesOf : Shape → BTreeMap (ℕ × ℕ) ℕ → Type 0
AreLinesOf m lines = (n k w : ℕ) → line_in lines n k ≡ Some w → w < wires_of m

-- the configuration, the lines and the wire are of one machine
pub record MayJoin (m : Shape) (lines : BTreeMap (ℕ × ℕ) ℕ) (g : Configuration) (w : ℕ) : Type 0 where
  pub shape : g.shape ≡ m
  pub lines_are : AreLinesOf m lines
  pub wire : w < wires_of m

-- the crosspoint is that of the wire and the net's line at the node
abbrev pub IsJoint : Shape → BTreeMap (ℕ × ℕ) ℕ → ℕ → ℕ → ℕ → ℕ → Type 0
IsJoint m lines n k t x = (w : ℕ) × (line_in lines n k ≡ Some w) × (x < crosses_of m) × (ends_of m x ≡ (t, w))

-- so at the wire's node or the one above it
abbrev pub IsNear : Shape → ℕ → ℕ → Type 0
IsNear m t n = (node_of m t ≡ n) ⊎ (parent_of m (node_of m t) ≡ Some n)

abbrev pub IsWireJoint : Shape → BTreeMap (ℕ × ℕ) ℕ → ℕ → ℕ → ℕ → Type 0
IsWireJoint m lines k t x = (n : ℕ) × IsNear m t n × IsJoint m lines n k t x

-- so if a net has the wire
abbrev pub IsJointAt : Shape → BTreeMap (ℕ × ℕ) ℕ → List (Option ℕ) → ℕ → ℕ → Type 0
IsJointAt m lines owners t x = (k : ℕ) × (owner_at owners t ≡ Some k) × IsWireJoint m lines k t x

-- so for one of the first wires
abbrev pub IsOwnedJoint : Shape → BTreeMap (ℕ × ℕ) ℕ → List (Option ℕ) → ℕ → ℕ → Type 0
IsOwnedJoint m lines owners i x = (t : ℕ) × (t < i) × IsJointAt m lines owners t x

-- the first tables are on at their seats, and the others stay
pub record SwitchesOn (seats : List Table) (tables : List NetTable) (n : ℕ) (old new : Configuration) : Type 0 where
  pub sized : length new.tables ≡ length old.tables
  pub on : (j : ℕ) → j < n → setting_of new (slice_index_or seats j no_seat).0 ≡ Some (setting_in (slice_index_or tables j no_table))
  pub others : (t : ℕ) → IsSome (setting_of new t) → IsSome (setting_of old t)
      ⊎ ((j : ℕ) × (j < n) × ((slice_index_or seats j no_seat).0 ≡ t))
  pub rest : new ≡ record old { tables = new.tables }
