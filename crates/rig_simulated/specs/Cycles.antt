-- A loaded machine, and a cycle of it.
use Rattle.std.specs.Prelude.{◌≡◌, ℕ, zero, suc, ◌<◌, Bool, true, List, length, map, slice_index}
use Rattle.machine_shape.specs.Shape.{pin_wire, pins_of}
use Rattle.machine_meaning.specs.Vocabulary.{Outputs, Pins, Faults, stuck_wire}
use Rattle.machine_config.specs.Vocabulary.{Configuration, circuit_of, Ticks, Cycle}
use Rattle.rig_simulated.specs.{declared.classes.ClassNode.ClassNode, declared.gates.Gate.Gate, Classes.AreKnots}
use Rattle.rig_simulated.specs.Gates.{is_low, IsClear, level_at, ticked, clocked, AreGates, AreOutputs, IsPulledBy, IsDrivenBy}
use Rattle.rig_simulated.specs.Gates.{AreMarkedToo}

-- the classes, the tables that are on and the pins are those of the configuration under the faults
pub record IsWired (f : Faults) (g : Configuration) (root : ℕ → ℕ) (knots : List ClassNode) (pins : List ℕ) (gates : List Gate) : Type 0 where
  pub most : ℕ
  pub knots_are : AreKnots (circuit_of f g).net (stuck_wire f) knots most root
  pub gates_are : AreGates f g root gates
  pub count : length pins ≡ pins_of g.shape
  pub pins_are : (k : ℕ) → k < pins_of g.shape → slice_index pins k ≡ root (pin_wire g.shape k)

-- the classes with a mark are those that the pins pull
pub record AreDriven (pins : List ℕ) (drive : Pins) (low : List Bool) : Type 0 where
  pub to : (r : ℕ) → is_low low r ≡ true → IsDrivenBy pins drive (length pins) r
  pub from : (r : ℕ) → IsDrivenBy pins drive (length pins) r → is_low low r ≡ true

-- the tables are what a tick makes of them, under marks of their own
pub record IsTick (f : Faults) (knots : List ClassNode) (low_pins : List Bool) (old new : List Gate) : Type 0 where
  pub clear : List Bool
  pub is_clear : IsClear clear
  pub marks : List Bool
  pub marked : AreMarkedToo clear marks (IsPulledBy old (length old))
  pub next : new ≡ map (ticked f (level_at knots low_pins marks)) old

-- so many ticks lead from the one list of tables to the other
pub data HaveTicked (f : Faults) (knots : List ClassNode) (low_pins : List Bool) (old : List Gate) : ℕ → List Gate → Type 0 where
  not_yet : HaveTicked f knots low_pins old zero old
  once_more : {n : ℕ} {mid new : List Gate} → HaveTicked f knots low_pins old n mid → IsTick f knots low_pins mid new →
      HaveTicked f knots low_pins old (suc n) new

-- the reading, and the tables after the clock edge
pub record IsEdge (f : Faults) (knots : List ClassNode) (low_pins low_tables : List Bool) (pins : List ℕ) (read : Pins)
    (old new : List Gate) : Type 0 where
  pub marks : List Bool
  pub marked : AreMarkedToo low_tables marks (IsPulledBy old (length old))
  pub reads : read ≡ map (level_at knots low_pins marks) pins
  pub next : new ≡ map (clocked f (level_at knots low_pins marks)) old

-- the tables after some ticks of a cycle
pub record HasTicked (f : Faults) (g : Configuration) (root : ℕ → ℕ) (knots : List ClassNode) (pins : List ℕ) (drive : Pins) (n : ℕ)
    (before : Outputs) (gates : List Gate) : Type 0 where
  pub outputs : Outputs
  pub ticks : Ticks (circuit_of f g) drive before n outputs
  pub wired : IsWired f g root knots pins gates
  pub gives : AreOutputs g gates outputs

-- and after the whole cycle
pub record HasCycled (f : Faults) (g : Configuration) (root : ℕ → ℕ) (knots : List ClassNode) (pins : List ℕ) (drive read : Pins)
    (before : Outputs) (gates : List Gate) : Type 0 where
  pub outputs : Outputs
  pub cycle : Cycle (circuit_of f g) before drive read outputs
  pub wired : IsWired f g root knots pins gates
  pub gives : AreOutputs g gates outputs
