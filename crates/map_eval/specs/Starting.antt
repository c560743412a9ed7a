-- What is kept of a network at its first cycle.
use Rattle.std.specs.Prelude.{◌≡◌, ◌<◌, ◌≤◌, ℕ, List, Bool, true, length, map, slice_index_or}
use Rattle.map_network.specs.declared.{source.Source.Source, network.NetTable.NetTable, network.Network.Network}
use Rattle.map_network.specs.Vocabulary.{no_table, table_at, bit_of, cell_at, flip}
use Rattle.map_eval.specs.{Marks.number_at, States.value_in}

abbrev pub first_values : List NetTable → List Bool
first_values tables = map (λ t. t.init) tables

-- the address has what the first m of these sources give, and else 1
pub record IsAddress (ins : List Source) (inputs values : List Bool) (m address : ℕ) : Type 0 where
  pub low : address < 64
  pub pins : (p : ℕ) → p < m → cell_at address p ≡ slice_index_or (map (bit_of inputs (value_in values)) ins) p true
  pub others : (p : ℕ) → m ≤ p → p < 6 → cell_at address p ≡ true

-- the first m masks, of all, are those of tables that give these bits
pub record HaveMasksTo (tables : List NetTable) (values : List Bool) (m : ℕ) (masks : List ℕ) : Type 0 where
  pub len : length masks ≡ length tables
  pub cells : (t a : ℕ) → t < m → a < 64 →
      cell_at (number_at masks t) a ≡ flip (value_in values t) (cell_at (slice_index_or tables t no_table).cells a)

-- the first m addresses, of all, have what their tables' pins read
pub record HaveAddressesTo (n : Network) (inputs values : List Bool) (m : ℕ) (addresses : List ℕ) : Type 0 where
  pub len : length addresses ≡ length n.tables
  pub each : (t : ℕ) → t < m → IsAddress (table_at n t).ins inputs values (length (table_at n t).ins) (number_at addresses t)
