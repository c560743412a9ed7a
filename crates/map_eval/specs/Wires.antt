-- Tables by the numbers of the signals that their pins read.
use Rattle.std.specs.Prelude.{◌≡◌, ◌+◌, ◌*◌, ◌<◌, ℕ, List, Bool, true, nat_lt, map, length, slice_index_or, if◌then◌else◌}
use Rattle.std.specs.List.{range_with_len}
use Rattle.map_network.specs.declared.{source.Source.Source, source.Source.TheVariants.Input, network.Network.Network}
use Rattle.map_network.specs.Vocabulary.{table_at, IsCombinational, IsLatched, truth}
use Rattle.map_eval.specs.{declared.busy.Busy.Busy, declared.plan.Plan.Plan, declared.state.State.State, Marks.number_at, States.value_in}
use Rattle.map_eval.specs.Pins.{signal_of}

-- the signal of a pin. A pin without an input reads the signal that is 1
abbrev pub wire_at : (tables one : ℕ) → List Source → ℕ → ℕ
wire_at tables one ins p = if nat_lt p (length ins) then signal_of tables (slice_index_or ins p (Input 0)) else one

-- that signal comes behind the inputs
abbrev pub one_of : Network → ℕ
one_of n = length n.tables + n.inputs

-- the signals of the first m pins of a table stand behind the others
pub record ArePushed (tables one : ℕ) (ins : List Source) (m : ℕ) (old new : List ℕ) : Type 0 where
  pub len : length new ≡ length old + m
  pub before : (i : ℕ) → i < length old → number_at new i ≡ number_at old i
  pub behind : (p : ℕ) → p < m → number_at new (length old + p) ≡ wire_at tables one ins p

-- six signals for each of the first m tables
pub record AreWires (n : Network) (m : ℕ) (wires : List ℕ) : Type 0 where
  pub len : length wires ≡ 6 * m
  pub each : (t p : ℕ) → t < m → p < 6 → number_at wires (6 * t + p) ≡ wire_at (length n.tables) (one_of n) (table_at n t).ins p

-- what the six signals of a table give
abbrev pub bits_at : (wires : List ℕ) → ℕ → List Bool → List Bool
bits_at wires t bits = map (λ p. value_in bits (number_at wires (6 * t + p))) (range_with_len 0 6)

-- the bits of signals: behind those of tables come those of inputs, and then a 1
pub record HaveInputs (n : Network) (inputs bits : List Bool) : Type 0 where
  pub len : length bits ≡ one_of n + 1
  pub given : (k : ℕ) → k < n.inputs → value_in bits (length n.tables + k) ≡ slice_index_or inputs k true
  pub one : value_in bits (one_of n) ≡ true

-- the first m tables, if they are combinational, have the cells that their pins address
abbrev pub AreTrueTo : Network → ℕ → (inputs bits : List Bool) → Type 0
AreTrueTo n m inputs bits = (t : ℕ) → t < m → IsCombinational n t → value_in bits t ≡ truth inputs (value_in bits) (table_at n t)

-- latched tables give what they gave
abbrev pub AreLatchedSame : Network → (old new : List Bool) → Type 0
AreLatchedSame n old new = (t : ℕ) → IsLatched n t → value_in new t ≡ value_in old t

-- the first m latched tables give the cells that their pins addressed
pub record HaveTakenTo (n : Network) (m : ℕ) (inputs bits new : List Bool) : Type 0 where
  pub taken : (t : ℕ) → t < m → IsLatched n t → value_in new t ≡ truth inputs (value_in bits) (table_at n t)

-- the first m tables give what their signals do
abbrev pub AreTablesIn : ℕ → (values bits : List Bool) → Type 0
AreTablesIn m values bits = (t : ℕ) → t < m → value_in bits t ≡ value_in values t

-- signals of pins, and a bit for each signal, of which the last is 1
pub record IsBusy (plan : Plan) (busy : Busy) : Type 0 where
  pub wires : AreWires plan.network (length plan.network.tables) busy.wires.items
  pub len : length busy.bits.items ≡ one_of plan.network + 1
  pub one : value_in busy.bits.items (one_of plan.network) ≡ true

-- the lists have their lengths
pub record IsShaped (plan : Plan) (state : State) : Type 0 where
  pub inputs : length state.inputs.items ≡ plan.network.inputs
  pub values : length state.values.items ≡ length plan.network.tables
  pub masks : length state.masks.items ≡ length plan.network.tables
  pub addresses : length state.addresses.items ≡ length plan.network.tables
  pub marks : length state.marks.items ≡ length plan.gates.items
