-- By which steps one network comes from another: a table is put into its one reader, tables that were are dropped, and so are
-- those that lead to no output.
use Rattle.std.specs.Prelude.{◌≡◌, ◌≤◌, ℕ, List, Bool, false, true, length, replicate, slice_set}
use Rattle.std.specs.List.{Contains}
use Rattle.map_network.specs.{declared.source.Source.TheVariants.Table, Merging.sources_together, Merging.Reads, Leading.AreUseless}
use Rattle.map_network.specs.declared.network.{NetTable.NetTable, Network.Network}
use Rattle.map_network.specs.{Networks.table_at, Networks.IsCombinational, Joining.IsJoined, Compacting.is_dropped, Compacting.IsCompacted}

-- A table is gone once it was put into its reader, though it stays in the list until it is dropped. Table r isn't gone, and
-- reads table j
pub record StillReads (n : Network) (gone : List Bool) (r j : ℕ) : Type 0 where
  pub stands : is_dropped gone r ≡ false
  pub reads : Reads n r j

-- j isn't gone and is combinational; of all that isn't gone r alone reads it, and no output does; and both have at most six
-- different sources together
pub record CanMerge (n : Network) (gone : List Bool) (j r : ℕ) : Type 0 where
  pub stands : is_dropped gone j ≡ false
  pub combinational : IsCombinational n j
  pub reads : StillReads n gone r j
  pub alone : (i : ℕ) → StillReads n gone i j → i ≡ r
  pub unshown : Contains n.outputs (Table j) → ⊥
  pub few : sources_together n j r ≤ 6

-- j is put into r: the table of the composed function stands in the place of r
pub record IsMerge (n : Network) (gone : List Bool) (j r : ℕ) (m : Network) : Type 0 where
  pub can : CanMerge n gone j r
  pub table : NetTable
  pub composed : IsJoined j (table_at n j) (table_at n r) table
  pub is : m ≡ record { inputs = n.inputs; tables = slice_set n.tables r table; outputs = n.outputs }

-- no table is gone
abbrev pub none_gone : Network → List Bool
none_gone n = replicate (length n.tables) false

-- the network comes from n by steps, after which these tables are gone
pub data Merges (n : Network) : Network → List Bool → Type 0 where
  begins : Merges n n (none_gone n)
  merges : {a b : Network} {gone : List Bool} {j r : ℕ} → Merges n a gone → IsMerge a gone j r b →
      Merges n b (slice_set gone j true)
  drops : {a b : Network} {gone : List Bool} → Merges n a gone → IsCompacted a gone b → Merges n b (none_gone b)
  prunes : {a b : Network} {useless : List Bool} → Merges n a (none_gone a) → AreUseless a useless → IsCompacted a useless b →
      Merges n b (none_gone b)

-- and none is gone that still stands in its list
abbrev pub IsMergedFrom : Network → Network → Type 0
IsMergedFrom n m = Merges n m (none_gone m)
