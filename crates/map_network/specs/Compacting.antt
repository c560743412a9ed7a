-- A network without some of its tables.
use Rattle.std.specs.Prelude.{◌≡◌, ◌<◌, ℕ, zero, suc, List, [], ◌∷◌, Bool, true, false, map, length, slice_index_or}
use Rattle.map_network.specs.{declared.source.Source.Source, declared.network.Network.Network, Joining.in_tables}
use Rattle.map_network.specs.declared.{source.Source.TheVariants.Input, source.Source.TheVariants.Table, network.NetTable.NetTable}

abbrev pub is_dropped : List Bool → ℕ → Bool
is_dropped dropped j = slice_index_or dropped j false

-- how many of the first j tables are kept
abbrev pub rank : List Bool → ℕ → ℕ
rank [] j = 0
rank (d ∷ ds) zero = 0
rank (true ∷ ds) (suc j) = rank ds j
rank (false ∷ ds) (suc j) = suc (rank ds j)

-- a table's new number
abbrev pub renamed : (ℕ → ℕ) → Source → Source
renamed f (Input k) = Input k
renamed f (Table j) = Table (f j)

abbrev pub renamed_table : (ℕ → ℕ) → NetTable → NetTable
renamed_table f t = record { ins = map (renamed f) t.ins; cells = t.cells; latched = t.latched; init = t.init }

-- the tables that are kept, with new numbers
abbrev pub kept_tables : (ℕ → ℕ) → List Bool → List NetTable → List NetTable
kept_tables f [] ts = []
kept_tables f (d ∷ ds) [] = []
kept_tables f (true ∷ ds) (t ∷ ts) = kept_tables f ds ts
kept_tables f (false ∷ ds) (t ∷ ts) = renamed_table f t ∷ kept_tables f ds ts

abbrev pub compacted : (ℕ → ℕ) → List Bool → Network → Network
compacted f dropped n = record {
  inputs = n.inputs;
  tables = kept_tables f dropped n.tables;
  outputs = map (renamed f) n.outputs;
}

-- the new numbers as a list
abbrev pub named_by : List ℕ → ℕ → ℕ
named_by ranks j = slice_index_or ranks j 0

-- the new numbers of the first m tables
pub record AreRanks (dropped : List Bool) (m : ℕ) (ranks : List ℕ) : Type 0 where
  pub len : length ranks ≡ m
  pub each : (j : ℕ) → j < m → named_by ranks j ≡ rank dropped j

-- the network without the tables that are dropped
pub record IsCompacted (n : Network) (dropped : List Bool) (m : Network) : Type 0 where
  pub ranks : List ℕ
  pub are : AreRanks dropped (length dropped) ranks
  pub is : m ≡ compacted (named_by ranks) dropped n

-- the source isn't a table that is dropped
abbrev pub IsKept : List Bool → Source → Type 0
IsKept dropped (Input k) = Unit {0}
IsKept dropped (Table j) = is_dropped dropped j ≡ false

abbrev pub AreKept : List Bool → List Source → Type 0
AreKept dropped sources = (k : ℕ) → k < length sources → IsKept dropped (slice_index_or sources k (Input 0))

-- no table that is kept reads one that is dropped, and no output shows one
pub record IsClosed (dropped : List Bool) (ts : List NetTable) (shown : List Source) : Type 0 where
  pub len : length dropped ≡ length ts
  pub tables : (j : ℕ) → j < length ts → is_dropped dropped j ≡ false → AreKept dropped (in_tables ts j).ins
  pub outputs : AreKept dropped shown
