-- A network whose tables are numbered anew.
use Rattle.std.specs.Prelude.{◌≡◌, ◌<◌, ◌≤◌, ℕ, List, Bool, length, map, slice_index_or}
use Rattle.map_network.specs.declared.network.{NetTable.NetTable, Network.Network}
use Rattle.map_network.specs.Vocabulary.{no_table, table_at, IsSourceOf, AreRows, named_by, renamed, renamed_table}
use Rattle.map_eval.specs.{Pins.source_at, Pins.AreInRange, States.IsLower, States.IsOrdered}

-- each table stands at its place in the order
abbrev pub AreInverse : (places order : List ℕ) → Type 0
AreInverse places order = (j : ℕ) → j < length places → (named_by places j < length order) × (named_by order (named_by places j) ≡ j)

-- the first m tables of the order, with their new numbers
pub record ArePlaced (n : Network) (places order : List ℕ) (m : ℕ) (tables : List NetTable) : Type 0 where
  pub len : length tables ≡ m
  pub each : (k : ℕ) → k < m → slice_index_or tables k no_table ≡ renamed_table (named_by places) (table_at n (named_by order k))

-- each table stands at its place, with the new numbers of what it reads
pub record IsPlaced (n m : Network) : Type 0 where
  pub places : List ℕ
  pub count : length m.tables ≡ length n.tables
  pub inputs : m.inputs ≡ n.inputs
  pub tables : (j : ℕ) → j < length n.tables →
      (named_by places j < length m.tables) × (table_at m (named_by places j) ≡ renamed_table (named_by places) (table_at n j))
  pub outputs : m.outputs ≡ map (renamed (named_by places)) n.outputs

abbrev pub AreInsInRange : Network → ℕ → Type 0
AreInsInRange n t = (length (table_at n t).ins ≤ 6) × ((p : ℕ) → p < length (table_at n t).ins → IsSourceOf n (source_at n t p))

abbrev pub AreInsLower : Network → ℕ → Type 0
AreInsLower n t = (p : ℕ) → p < length (table_at n t).ins → IsLower n t (source_at n t p)

-- a network in order whose rows are those of the first
pub record IsStandIn (n m : Network) : Type 0 where
  pub count : length m.tables ≡ length n.tables
  pub inputs : m.inputs ≡ n.inputs
  pub outputs : length m.outputs ≡ length n.outputs
  pub rows : (vectors rows : List (List Bool)) → AreRows m vectors rows → AreRows n vectors rows
  pub range : AreInRange m
  pub ordered : IsOrdered m
