-- What a circuit does over time.
use Rattle.std.specs.Prelude.{◌≡◌, ℕ, zero, suc, ◌+◌, ◌*◌, Bool, true, if◌then◌else◌, Option, Some, None, List, [], ◌∷◌, map, unwrap_or}
use Rattle.std.specs.List.{range_with_len}
use Rattle.machine_shape.specs.Shape.{pin_wire, table_wire, pins_of}
use Rattle.machine_meaning.specs.Vocabulary.{Circuit, Table, Outputs, Pins, AreValues}

-- the number whose bits these are, the lowest first
abbrev pub number_of : List Bool → ℕ
number_of [] = 0
number_of (b ∷ bs) = (if b then 1 else 0) + 2 * number_of bs

-- the address at a table's six input pins
unfoldable pub address_at : Circuit → (ℕ → Bool) → ℕ → ℕ
address_at c value t = number_of (map (λ j. value (table_wire c.net.shape t j)) (range_with_len 0 6))

-- what all pins of the machine read
abbrev pub pins_read : Circuit → (ℕ → Bool) → Pins
pins_read c value = map (λ k. value (pin_wire c.net.shape k)) (range_with_len 0 (pins_of c.net.shape))

abbrev pub first_output : Option Table → Bool
first_output None = true
first_output (Some t) = t.first

abbrev pub tick_output : Option Table → ℕ → Bool → Bool
tick_output None address old = true
tick_output (Some t) address old = if t.latched then old else t.cell address

abbrev pub edge_output : Option Table → ℕ → Bool → Bool
edge_output None address old = true
edge_output (Some t) address old = if t.latched then unwrap_or t.held (t.cell address) else old

-- the state after a load
abbrev pub at_load : Circuit → Outputs
at_load c t = first_output (c.table t)

-- at a tick every combinational table takes at once the cell that its inputs address
abbrev pub after_tick : Circuit → (ℕ → Bool) → Outputs → Outputs
after_tick c value outputs t = tick_output (c.table t) (address_at c value t) (outputs t)

-- at the clock edge every latched table does, but one whose register is stuck
abbrev pub after_edge : Circuit → (ℕ → Bool) → Outputs → Outputs
after_edge c value outputs t = edge_output (c.table t) (address_at c value t) (outputs t)

-- n ticks lead from the outputs before to the outputs after
pub data Ticks (c : Circuit) (drive : Pins) (before : Outputs) : ℕ → Outputs → Type 0 where
  unticked : Ticks c drive before zero before
  tick : {n : ℕ} {mid after : Outputs} (value : ℕ → Bool) → Ticks c drive before n mid → AreValues c drive mid value →
      after ≡ after_tick c value mid → Ticks c drive before (suc n) after

-- one cycle: the ticks, the reading, and the clock edge
pub record Cycle (c : Circuit) (before : Outputs) (drive read : Pins) (after : Outputs) : Type 0 where
  pub outputs : Outputs
  pub value : ℕ → Bool
  pub ticks : Ticks c drive before c.ticks outputs
  pub values : AreValues c drive outputs value
  pub reads : read ≡ pins_read c value
  pub edge : after ≡ after_edge c value outputs

-- under these drives the circuit gives these readings, from the outputs before to the outputs after
pub data Cycles (c : Circuit) : Outputs → List Pins → List Pins → Outputs → Type 0 where
  none : {outputs : Outputs} → Cycles c outputs [] [] outputs
  cycle : {before mid after : Outputs} {drive read : Pins} {drives reads : List Pins} → Cycle c before drive read mid →
      Cycles c mid drives reads after → Cycles c before (drive ∷ drives) (read ∷ reads) after

-- after a load the circuit gives these readings under these drives
pub record Runs (c : Circuit) (drives reads : List Pins) : Type 0 where
  pub outputs : Outputs
  pub cycles : Cycles c (at_load c) drives reads outputs
