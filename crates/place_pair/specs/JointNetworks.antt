-- Two networks as one.
use Rattle.std.specs.Prelude.{◌≡◌, ℕ, ◌+◌, ◌<◌, ◌++◌, List, Bool, map, length, take, drop}
use Rattle.std.specs.List.{All}
use Rattle.map_network.specs.{declared.source.Source.Source, declared.network.Network.Network, Vocabulary.IsNetwork, Vocabulary.AreRows}
use Rattle.map_network.specs.declared.{source.Source.TheVariants.Input, source.Source.TheVariants.Table, network.NetTable.NetTable}

-- so many elements of a list, from a place on
abbrev pub part : {A : Type 0} → ℕ → ℕ → List A → List A
part from count xs = take count (drop from xs)

-- what a source is called behind so many inputs and tables of others
abbrev pub moved : ℕ → ℕ → Source → Source
moved inputs tables (Input k) = Input (inputs + k)
moved inputs tables (Table j) = Table (tables + j)

abbrev pub moved_table : ℕ → ℕ → NetTable → NetTable
moved_table inputs tables t = record { ins = map (moved inputs tables) t.ins; cells = t.cells; latched = t.latched; init = t.init }

-- the inputs of the one and then those of the other, and so their tables and their outputs
abbrev pub joint_network : Network → Network → Network
joint_network n o = record {
  inputs = n.inputs + o.inputs;
  tables = n.tables ++ map (moved_table n.inputs (length n.tables)) o.tables;
  outputs = n.outputs ++ map (moved n.inputs (length n.tables)) o.outputs;
}

-- two networks for whose inputs and tables together there are numbers
pub record MayBeJoint (n o : Network) : Type 0 where
  pub first : IsNetwork n
  pub second : IsNetwork o
  pub inputs : n.inputs + o.inputs < 4294967296
  pub tables : length n.tables + length o.tables < 4294967296

-- Rows of two networks side by side: each vector is one for the first and then one for the second, and each row is the
-- first's row and then the second's.
pub record AreBothRows (n o : Network) (vectors rows : List (List Bool)) : Type 0 where
  pub first : AreRows n (map (part 0 n.inputs) vectors) (map (part 0 (length n.outputs)) rows)
  pub second : AreRows o (map (part n.inputs o.inputs) vectors) (map (part (length n.outputs) (length o.outputs)) rows)
  pub wide : All (λ row. length row ≡ length n.outputs + length o.outputs) rows
