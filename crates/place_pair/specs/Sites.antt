-- Where a network stands in a joint one, and what its tenant takes over from the whole.
use Rattle.std.specs.Prelude.{◌≡◌, ◌⊎◌, ℕ, ◌+◌, ◌<◌, ◌≤◌, true, Some, IsSome, List, Option, map, length, slice_index_or}
use Rattle.std.specs.List.{Contains}
use Rattle.std.specs.FinSet as set
use Rattle.machine_shape.specs.{declared.Shape.Shape, declared.Cross.Cross, Shape.ends_of}
use Rattle.machine_shape.specs.declared.Table as hierarchy
use Rattle.machine_meaning.specs.Vocabulary.{Defects, Covers, Faults}
use Rattle.machine_config.specs.Configuration.{Configuration, is_closed, setting_of}
use Rattle.machine_image.specs.Vocabulary.{ImageValue, IsFreeImage}
use Rattle.map_network.specs.{declared.source.Source.Source, Networks.table_at}
use Rattle.map_network.specs.declared.{source.Source.TheVariants.Input, source.Source.TheVariants.Table, network.Network.Network}
use Rattle.place_plan.specs.declared.plan.Plan.{Plan}
use Rattle.place_route.specs.Vocabulary.{no_seat, setting_in, owner_at, IsRightForNetwork, ReadsRows}
use Rattle.place_pair.specs.{declared.site.Site.Site, Tenants.AreTenants, Tenants.HasPinsOf, Tenants.StandApart}
use Rattle.place_pair.specs.JointNetworks.{AreBothRows, part, moved, moved_table}

-- the first of two networks stands in their joint network from the start on, and the second behind it
abbrev pub first_site : Network → Network → Site
first_site n o = record { input = 0; table = 0; output = 0; net = n.inputs + o.inputs }

abbrev pub second_site : Network → Network → Site
second_site n o = record {
  input = n.inputs;
  table = length n.tables;
  output = length n.outputs;
  net = n.inputs + o.inputs + length n.tables;
}

-- the number is one of so many from the first on
abbrev pub IsFrom : ℕ → ℕ → ℕ → Type 0
IsFrom first count k = (first ≤ k) × (k < first + count)

-- the source is one of the network's own
abbrev pub IsOwnSource : Site → Network → Source → Type 0
IsOwnSource s n (Input k) = IsFrom s.input n.inputs k
IsOwnSource s n (Table j) = IsFrom s.table (length n.tables) j

-- The network's inputs, tables and outputs are among those of the joint one, from a place on. Nothing else there reads its
-- sources.
pub record StandsIn (s : Site) (n joint : Network) : Type 0 where
  pub inputs : s.input + n.inputs ≤ joint.inputs
  pub tables_within : s.table + length n.tables ≤ length joint.tables
  pub outputs_within : s.output + length n.outputs ≤ length joint.outputs
  pub tables : part s.table (length n.tables) joint.tables ≡ map (moved_table s.input s.table) n.tables
  pub outputs : part s.output (length n.outputs) joint.outputs ≡ map (moved s.input s.table) n.outputs
  pub net : s.net ≡ joint.inputs + s.table
  pub others : (j : ℕ) (x : Source) → j < length joint.tables → ¬ IsFrom s.table (length n.tables) j →
      Contains (table_at joint j).ins x → ¬ IsOwnSource s n x
  pub other_outputs : (o : ℕ) (x : Source) → o < length joint.outputs → ¬ IsFrom s.output (length n.outputs) o →
      slice_index_or joint.outputs o x ≡ x →
      ¬ IsOwnSource s n x

-- the net of the joint network is one of the network's
abbrev pub Owns : Site → Network → ℕ → Type 0
Owns s n k = IsFrom s.input n.inputs k ⊎ IsFrom s.net (length n.tables) k

-- some net of the network's has the wire, by a list of owners
abbrev pub IsHeldBy : Site → Network → List (Option ℕ) → ℕ → Type 0
IsHeldBy s n owners w = (k : ℕ) × (owner_at owners w ≡ Some k) × Owns s n k

-- so of a closed crosspoint's tap, by a list of them
abbrev pub IsHeldAmong : Shape → Site → Network → List (Option ℕ) → List Cross → ℕ → Type 0
IsHeldAmong m s n owners closed x = Contains closed (record { 0 = x }) × IsHeldBy s n owners (ends_of m x).0

-- Of the whole's crosspoints those whose taps the network's nets have, the network's tables on these seats, and as many ticks.
pub record IsShare (s : Site) (n : Network) (owners : List (Option ℕ)) (seats : List hierarchy.Table)
    (whole g : Configuration) : Type 0 where
  pub shape : g.shape ≡ whole.shape
  pub ticks : g.ticks ≡ whole.ticks
  pub only : (x : ℕ) → is_closed g x ≡ true → (is_closed whole x ≡ true) × IsHeldBy s n owners (ends_of whole.shape x).0
  pub each : (x : ℕ) → is_closed whole x ≡ true → IsHeldBy s n owners (ends_of whole.shape x).0 → is_closed g x ≡ true
  pub on : (j : ℕ) → j < length n.tables → setting_of g (slice_index_or seats j no_seat).0 ≡ Some (setting_in (table_at n j))
  pub others : (t : ℕ) → IsSome (setting_of g t) → (j : ℕ) × (j < length n.tables) × ((slice_index_or seats j no_seat).0 ≡ t)
  pub few : set.len g.closed ≤ set.len whole.closed

-- The tenant has the network's part of the plan's seats and of the whole's pins.
pub record IsTenant (s : Site) (n : Network) (p : Plan) (owners : List (Option ℕ)) (whole i : ImageValue) : Type 0 where
  pub share : IsShare s n owners (part s.table (length n.tables) p.tables) whole.config i.config
  pub inputs : i.inputs ≡ part s.input n.inputs whole.inputs
  pub outputs : i.outputs ≡ part s.output (length n.outputs) whole.outputs

-- a number stays small behind so many inputs or tables
abbrev pub IsMovable : ℕ → ℕ → Source → Type 0
IsMovable inputs tables (Input k) = inputs + k < 4294967296
IsMovable inputs tables (Table j) = tables + j < 4294967296

-- all that is said of a whole and its tenants
pub record IsSplit (m : Shape) (d : Defects) (n o : Network) (whole first second : ImageValue) : Type 0 where
  pub shape : whole.config.shape ≡ m
  pub tenants : AreTenants whole first second
  pub free : IsFreeImage d whole
  pub first_free : IsFreeImage d first
  pub second_free : IsFreeImage d second
  pub first_pins : HasPinsOf n first
  pub second_pins : HasPinsOf o second
  pub apart : (f : Faults) → Covers m d f → StandApart f whole first second
  pub first_right : (f : Faults) → Covers m d f → IsRightForNetwork f first n
  pub second_right : (f : Faults) → Covers m d f → IsRightForNetwork f second o
  pub rows : (f : Faults) → Covers m d f → ReadsRows f whole (AreBothRows n o)
