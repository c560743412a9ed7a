-- Faults that come and go, and the runs of a machine that has them.
use Rattle.std.specs.Prelude.{◌≡◌, ℕ, zero, suc, Bool, if◌then◌else◌, Option, Some, None, List, [], ◌∷◌, unwrap_or}
use Rattle.machine_shape.specs.declared.Shape.{Shape}
use Rattle.machine_meaning.specs.Vocabulary.{Faults, AreFaultsOf, Table, Outputs, Pins, AreValues}
use Rattle.machine_config.specs.Vocabulary.{Configuration, setting_of, circuit_of, table_or_off, pins_read, at_load, after_tick, after_edge}

-- The faults at each instant of each cycle, both counted from 0. The instants of a cycle of n ticks are its ticks, and n: the
-- reading and the clock edge.
abbrev pub History : Type 0
History = ℕ → ℕ → Faults

-- they are faults of a machine of this shape
abbrev pub IsHistoryOf : Shape → History → Type 0
IsHistoryOf m h = (cycle instant : ℕ) → AreFaultsOf m (h cycle instant)

-- one and the same set each time
abbrev pub IsConstant : Faults → History → Type 0
IsConstant f h = (cycle instant : ℕ) → h cycle instant ≡ f

-- a latched table whose register is stuck takes the register's value, and keeps it when the register is stuck no longer
abbrev pub settled_output : Option Table → Bool → Bool
settled_output None old = old
settled_output (Some t) old = if t.latched then unwrap_or t.held old else old

-- so at an instant with these faults, before anything else
abbrev pub settled : Faults → Configuration → Outputs → Outputs
settled f g outputs t = settled_output (table_or_off f t (setting_of g t)) (outputs t)

-- n ticks of a cycle lead from the outputs before to the outputs after, each with the faults of its instant
pub data TicksOver (faults : ℕ → Faults) (g : Configuration) (drive : Pins) (before : Outputs) : ℕ → Outputs → Type 0 where
  unticked_over : TicksOver faults g drive before zero before
  tick_over : {n : ℕ} {mid after : Outputs} (value : ℕ → Bool) → TicksOver faults g drive before n mid →
      AreValues (circuit_of (faults n) g) drive (settled (faults n) g mid) value →
      after ≡ after_tick (circuit_of (faults n) g) value (settled (faults n) g mid) → TicksOver faults g drive before (suc n) after

-- one cycle: the ticks, and then the reading and the clock edge, with the faults of the last instant
pub record CycleOver (faults : ℕ → Faults) (g : Configuration) (before : Outputs) (drive read : Pins) (after : Outputs) : Type 0 where
  pub outputs : Outputs
  pub value : ℕ → Bool
  pub ticks : TicksOver faults g drive before g.ticks outputs
  pub values : AreValues (circuit_of (faults g.ticks) g) drive (settled (faults g.ticks) g outputs) value
  pub reads : read ≡ pins_read (circuit_of (faults g.ticks) g) value
  pub edge : after ≡ after_edge (circuit_of (faults g.ticks) g) value (settled (faults g.ticks) g outputs)

-- under these drives the machine gives these readings, from a cycle on, and from the outputs before to the outputs after
pub data CyclesOver (h : History) (g : Configuration) : ℕ → Outputs → List Pins → List Pins → Outputs → Type 0 where
  none_over : {k : ℕ} {outputs : Outputs} → CyclesOver h g k outputs [] [] outputs
  cycle_over : {k : ℕ} {before mid after : Outputs} {drive read : Pins} {drives reads : List Pins} →
      CycleOver (h k) g before drive read mid → CyclesOver h g (suc k) mid drives reads after →
      CyclesOver h g k before (drive ∷ drives) (read ∷ reads) after

-- Under these drives, from a load on, a machine with this configuration whose faults come and go so gives these readings. The
-- load is made with the faults of the first instant.
pub record IsRunOver (h : History) (g : Configuration) (drives reads : List Pins) : Type 0 where
  pub outputs : Outputs
  pub cycles : CyclesOver h g 0 (at_load (circuit_of (h 0 0) g)) drives reads outputs
