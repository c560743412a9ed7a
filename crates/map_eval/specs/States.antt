-- What is kept of a network between changes.
use Rattle.std.specs.Prelude.{◌≡◌, ◌+◌, ◌/◌, ◌<◌, ◌≤◌, ◌⊎◌, ℕ, List, Bool, true, false, length, map, slice_index_or}
use Rattle.map_network.specs.declared.source.Source.{Source}
use Rattle.map_network.specs.declared.{source.Source.TheVariants.Input, source.Source.TheVariants.Table, network.Network.Network}
use Rattle.map_network.specs.Vocabulary.{table_at, IsCombinational, IsLatched, bit_of, cell_at, flip}
use Rattle.map_eval.specs.declared.{plan.Plan.Plan, state.State.State}
use Rattle.map_eval.specs.{Pins.source_at, Pins.AreInRange, Pins.ArePins, Marks.number_at, Marks.is_marked, Marks.AreMarked, Turns.AreLow}

-- what a table gives, by a list of bits
abbrev pub value_in : List Bool → ℕ → Bool
value_in values j = slice_index_or values j false

-- what a pin of a table reads. One without an input reads 1
abbrev pub pin_bit : Network → (inputs values : List Bool) → ℕ → ℕ → Bool
pin_bit n inputs values t p = slice_index_or (map (bit_of inputs (value_in values)) (table_at n t).ins) p true

-- each table's address has what its pins read
pub record HavePins (n : Network) (inputs values : List Bool) (addresses : List ℕ) : Type 0 where
  pub len : length addresses ≡ length n.tables
  pub low : AreLow addresses
  pub pins : (t p : ℕ) → t < length n.tables → p < 6 → cell_at (number_at addresses t) p ≡ pin_bit n inputs values t p

-- each table's mask has its cells, turned where it gives 1: so the mask's cell says whether the table differs from what it gives
pub record HaveMasks (n : Network) (values : List Bool) (masks : List ℕ) : Type 0 where
  pub len : length masks ≡ length n.tables
  pub cells : (t a : ℕ) → t < length n.tables → a < 64 →
      cell_at (number_at masks t) a ≡ flip (value_in values t) (cell_at (table_at n t).cells a)

-- a table reads an input, a latched table, or one before it
abbrev pub IsLower : Network → ℕ → Source → Type 0
IsLower n t (Input k) = Unit {0}
IsLower n t (Table j) = (j < t) ⊎ IsLatched n j

-- each combinational table reads inputs, latched tables and tables before it alone
abbrev pub IsOrdered : Network → Type 0
IsOrdered n = (t p : ℕ) → IsCombinational n t → p < length (table_at n t).ins → IsLower n t (source_at n t p)

-- of the first m tables exactly the combinational ones have a bit
pub record AreGates (n : Network) (m : ℕ) (gates : List ℕ) : Type 0 where
  pub size : length gates ≡ length n.tables / 64 + 1
  pub all : (t : ℕ) → t < m → IsCombinational n t → is_marked gates t ≡ true
  pub only : (t : ℕ) → is_marked gates t ≡ true → IsCombinational n t

-- a network in order, the pins of its signals, and words with a bit for each combinational table
pub record IsPlan (plan : Plan) : Type 0 where
  pub few : length plan.network.tables ≤ 65536
  pub range : AreInRange plan.network
  pub ordered : IsOrdered plan.network
  pub pins : ArePins plan.network plan.pins.items
  pub gates : AreGates plan.network (length plan.network.tables) plan.gates.items

-- the lists have their lengths, and addresses and masks are right
pub record IsSized (n : Network) (words : ℕ) (state : State) : Type 0 where
  pub inputs : length state.inputs.items ≡ n.inputs
  pub values : length state.values.items ≡ length n.tables
  pub marks : length state.marks.items ≡ words
  pub pins : HavePins n state.inputs.items state.values.items state.addresses.items
  pub masks : HaveMasks n state.values.items state.masks.items

-- and exactly the tables that differ are marked
pub record IsKept (plan : Plan) (state : State) : Type 0 where
  pub sized : IsSized plan.network (length plan.gates.items) state
  pub marked : AreMarked state.masks.items state.addresses.items state.marks.items
