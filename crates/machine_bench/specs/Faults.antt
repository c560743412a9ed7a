-- The faults that the generator makes.
use Rattle.std.specs.Prelude.{◌≡◌, ℕ, zero, suc, ◌%◌, ◌≤◌, ◌==◌, false, true, if◌then◌else◌, None, Some}
use Rattle.machine_shape.specs.declared.Shape.{Shape}
use Rattle.machine_shape.specs.Shape.{wires_of, crosses_of, tables_of, ends_of, Meaning, Pin, Line, Port, TablePin, Means}
use Rattle.machine_meaning.specs.Faults.{Faults}
use Rattle.machine_faults.specs.declared.fault.Fault.{Fault}
use Rattle.machine_faults.specs.declared.fault.Fault.TheVariants.{Stuck, CrossStuck, Cell, Register, Bridge}
use Rattle.machine_faults.specs.{declared.fault.AddFault.AddFault, Adding.no_faults, Adding.with_fault, Adding.refusal_of}
use Rattle.base_random.specs.Draws.{state_after, nth_draw}

-- the position of a table in its hextant: hextants have as many tables each, and are numbered one after the other
abbrev pub table_position : Shape → ℕ → ℕ
table_position m t = t % m.counts.tables

-- a part that may be hit: a pin, a line or a port from position 20 on, or a pin of a table from position 4 on
abbrev pub IsHittable : Shape → Meaning → Type 0
IsHittable m (Pin k) = 20 ≤ k
IsHittable m (Line n k) = 20 ≤ k
IsHittable m (Port n k) = 20 ≤ k
IsHittable m (TablePin t k) = 4 ≤ table_position m t

-- a wire that may be hit
pub record MayBeHit (m : Shape) (w : ℕ) : Type 0 where
  pub meaning : Meaning
  pub means : Means m w meaning
  pub hittable : IsHittable m meaning

-- A fault that is allowed. Of a crosspoint that is stuck open only the line is hit.
abbrev pub IsAllowed : Shape → Fault → Type 0
IsAllowed m (Stuck wire value) = MayBeHit m wire.0
IsAllowed m (CrossStuck cross false) = MayBeHit m (ends_of m cross.0).1
IsAllowed m (CrossStuck cross true) = MayBeHit m (ends_of m cross.0).0 × MayBeHit m (ends_of m cross.0).1
IsAllowed m (Cell table address value) = 4 ≤ table_position m table.0
IsAllowed m (Register table value) = ⊥
IsAllowed m (Bridge a b) = MayBeHit m a.0 × MayBeHit m b.0

-- The fault of a turn that begins in a state, by the turn's first draw: stuck at 0, stuck at 1, stuck open, stuck
-- closed, a wrong cell or a bridge.
abbrev pub fault_by : Shape → ℕ → ℕ → Fault
fault_by m s first =
    if first == 0 then Stuck (record { 0 = nth_draw 2 (wires_of m) s }) false
    else if first == 1 then Stuck (record { 0 = nth_draw 2 (wires_of m) s }) true
    else if first == 2 then CrossStuck (record { 0 = nth_draw 2 (crosses_of m) s }) false
    else if first == 3 then CrossStuck (record { 0 = nth_draw 2 (crosses_of m) s }) true
    else if first == 4 then Cell (record { 0 = nth_draw 2 (tables_of m) s }) (nth_draw 3 64 s) (nth_draw 4 2 s == 1)
    else Bridge (record { 0 = nth_draw 2 (wires_of m) s }) (record { 0 = nth_draw 3 (wires_of m) s })

-- how many draws a turn makes, by its first
abbrev pub draws_by : ℕ → ℕ
draws_by first = if first == 4 then 4 else if first == 5 then 3 else 2

-- the fault that a turn draws, and the state that it leaves
abbrev pub fault_of_turn : Shape → ℕ → Fault
fault_of_turn m s = fault_by m s (nth_draw 1 6 s)

abbrev pub state_of_turn : ℕ → ℕ
state_of_turn s = state_after (draws_by (nth_draw 1 6 s)) s

-- the state in which the turn begins that comes after so many turns from the number n
abbrev pub turn_state : ℕ → ℕ → ℕ
turn_state n zero = n
turn_state n (suc turns) = state_of_turn (turn_state n turns)

-- a machine's set takes a fault, or refuses it and stays as it was
pub data IsOneMore (m : Shape) (f : Faults) (x : Fault) : Faults → Type 0 where
  added : refusal_of m f x ≡ None → IsOneMore m f x (with_fault f x)
  refused : (why : AddFault) → refusal_of m f x ≡ Some why → IsOneMore m f x f

-- a fault that is allowed is added where the set takes it; each other is dropped
pub data Takes (m : Shape) (f : Faults) (x : Fault) (g : Faults) : Type 0 where
  allowed : IsAllowed m x → IsOneMore m f x g → Takes m f x g
  not_allowed : ¬ IsAllowed m x → g ≡ f → Takes m f x g

-- the faults after so many turns from the number n
pub data AfterTurns (m : Shape) (n : ℕ) : ℕ → Faults → Type 0 where
  none : AfterTurns m n zero no_faults
  turn : {turns : ℕ} {f g : Faults} → AfterTurns m n turns f → Takes m f (fault_of_turn m (turn_state n turns)) g →
      AfterTurns m n (suc turns) g

-- the faults that the number n makes for this shape
abbrev pub AreBenchFaults : Shape → ℕ → Faults → Type 0
AreBenchFaults m n f = AfterTurns m n 400 f
