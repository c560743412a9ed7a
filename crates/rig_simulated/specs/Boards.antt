-- A machine that is prepared, and one that is loaded.
use Rattle.std.specs.Prelude.{◌≡◌, ℕ, ◌<◌, Bool, true, List, length, slice_index, All}
use Rattle.machine_shape.specs.{declared.Shape.Shape, Shape.wires_of, Shape.tables_of, Shape.pins_of, Shape.pin_wire}
use Rattle.machine_meaning.specs.Faults.{Faults}
use Rattle.machine_config.specs.Configuration.{Configuration}
use Rattle.rig_simulated.specs.{declared.board.Board.Board, declared.driving.KeptPins.KeptPins, Building.AreClosedBy, Tracked.IsTracked}
use Rattle.rig_simulated.specs.{declared.classes.ClassNode.ClassNode, Gates.IsClear, Gates.Fits, Cycles.IsWired, Cycles.AreDriven}
use Rattle.rig_simulated.specs.{Classes.HasRoots, Stuck.AreStuck, Chains.AreWithin, Settling.Settles, Pulls.AreZero, Events.AreEvents}

-- there is room for what the pins are driven, and the marks are those of it
pub record HasPins (m : Shape) (pins : List ℕ) (low : List Bool) (kept : KeptPins) : Type 0 where
  pub within : All (λ r. r < wires_of m) pins
  pub marks : length low ≡ wires_of m
  pub last : length kept.chains.last.items ≡ wires_of m
  pub few : AreWithin kept.chains.last.items (pins_of m)
  pub before : length kept.chains.before.items ≡ pins_of m
  pub drive : length kept.drive ≡ pins_of m
  pub levels : length kept.levels ≡ pins_of m
  pub driven : AreDriven pins kept.drive low

-- the pins are these
abbrev pub ArePinsOf : Shape → List ClassNode → List ℕ → Type 0
ArePinsOf m knots pins = (most : ℕ) (root : ℕ → ℕ) → HasRoots knots most root → (k : ℕ) → k < pins_of m →
    slice_index pins k ≡ root (pin_wire m k)

-- its faults are prepared, its classes are those of what is closed, and no class has a mark of a table or a count
pub record IsPrepared (m : Shape) (f : Faults) (b : Board) : Type 0 where
  pub closed : AreClosedBy m f b.classes.closed.items b.classes.knots.items
  pub knots : length b.classes.knots.items ≡ wires_of m
  pub stuck : AreStuck m f b.stuck
  pub pins : HasPins m b.pins.items b.low_pins.items b.kept
  pub low_tables : length b.low_tables.items ≡ wires_of m
  pub ranks : length b.ranks.items ≡ wires_of m
  pub tables_clear : IsClear b.low_tables.items
  pub pulls : length b.events.pulls.items ≡ wires_of m
  pub pulls_zero : AreZero b.events.pulls.items

-- the tables are of the machine, and so are the readers where they are listed, and what is kept of the pins is true
pub record AreFitting (m : Shape) (b : Board) : Type 0 where
  pub gates : All (Fits (tables_of m) (wires_of m)) b.gates.items
  pub pins : IsTracked b.classes.knots.items b.pins.items b.low_pins.items b.kept
  pub events : b.events.listed ≡ true → AreEvents b.gates.items b.events

-- the configuration is loaded
pub record IsLoaded (f : Faults) (g : Configuration) (b : Board) : Type 0 where
  pub fitting : AreFitting g.shape b
  pub root : ℕ → ℕ
  pub wired : IsWired f g root b.classes.knots.items b.pins.items b.gates.items
  pub settles : b.ranked ≡ true → Settles b.gates.items g.ticks
