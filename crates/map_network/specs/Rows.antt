-- What a network does: the right valuations of its tables, and the rows that follow from them.
use Rattle.std.specs.Prelude.{◌≡◌, ◌↔◌, ◌+◌, ◌*◌, ◌==◌, ℕ, List, [], ◌∷◌, Bool, true, map, length, slice_index_or, if◌then◌else◌}
use Rattle.std.specs.{Int.bit_at, List.range_with_len}
use Rattle.design_netlist.specs.declared.netlist_data.NetlistData.{NetlistData}
use Rattle.design_netlist.specs.Rows as netlist
use Rattle.map_network.specs.declared.source.Source.{Source}
use Rattle.map_network.specs.declared.{source.Source.TheVariants.Input, source.Source.TheVariants.Table, network.Network.Network}
use Rattle.map_network.specs.{declared.network.NetTable.NetTable, Networks.table_at, Networks.IsCombinational, Networks.IsLatched}

-- the number whose bits these are, the lowest first
abbrev pub number_of : List Bool → ℕ
number_of [] = 0
number_of (b ∷ bs) = (if b then 1 else 0) + 2 * number_of bs

-- the cell for an address: that bit of the cells
abbrev pub cell_at : ℕ → ℕ → Bool
cell_at cells a = bit_at cells a == 1

-- the bit of a source, by a vector and by what the tables give
abbrev pub bit_of : List Bool → (ℕ → Bool) → Source → Bool
bit_of vector given (Input k) = slice_index_or vector k true
bit_of vector given (Table j) = given j

-- what a table of these inputs reads at its six pins. A pin without an input counts as 1
abbrev pub pins_of : List Bool → (ℕ → Bool) → List Source → List Bool
pins_of vector given ins = map (λ k. slice_index_or (map (bit_of vector given) ins) k true) (range_with_len 0 6)

-- the cell that a table's pins address
abbrev pub truth : List Bool → (ℕ → Bool) → NetTable → Bool
truth vector given t = cell_at t.cells (number_of (pins_of vector given t.ins))

-- latched tables have the state, and combinational ones the cells that their pins address
pub record IsNetworkValuation (n : Network) (state : ℕ → Bool) (vector : List Bool) (given : ℕ → Bool) : Type 0 where
  pub inputs : length vector ≡ n.inputs
  pub latched : (j : ℕ) → IsLatched n j → given j ≡ state j
  pub combinational : (j : ℕ) → IsCombinational n j → given j ≡ truth vector given (table_at n j)

abbrev pub outputs_in : Network → List Bool → (ℕ → Bool) → List Bool
outputs_in n vector given = map (bit_of vector given) n.outputs

-- what the tables take at the end of a cycle. Latched ones keep it
abbrev pub next_state : Network → List Bool → (ℕ → Bool) → (ℕ → Bool)
next_state n vector given j = truth vector given (table_at n j)

abbrev pub first_state : Network → ℕ → Bool
first_state n j = (table_at n j).init

-- one row for each vector: the outputs in a right valuation, and the next state from it
abbrev pub RowsFrom : Network → (ℕ → Bool) → List (List Bool) → List (List Bool) → Type 0
RowsFrom n state [] [] = Unit {0}
RowsFrom n state [] (row ∷ rows) = ⊥
RowsFrom n state (vector ∷ vectors) [] = ⊥
RowsFrom n state (vector ∷ vectors) (row ∷ rows) =
    (given : ℕ → Bool) × IsNetworkValuation n state vector given × (row ≡ outputs_in n vector given)
    × RowsFrom n (next_state n vector given) vectors rows

-- the network's rows for the vectors
abbrev pub AreRows : Network → List (List Bool) → List (List Bool) → Type 0
AreRows n vectors rows = RowsFrom n (first_state n) vectors rows

-- the network's rows are the netlist's
abbrev pub HasRowsOf : Network → NetlistData → Type 0
HasRowsOf n d = (vectors rows : List (List Bool)) → netlist.AreRows d vectors rows ↔ AreRows n vectors rows

-- exactly one list is that of the rows
abbrev pub HasOneRows : Network → List (List Bool) → Type 0
HasOneRows n vectors = (rows : List (List Bool)) × AreRows n vectors rows
    × ((other : List (List Bool)) → AreRows n vectors other → other ≡ rows)
