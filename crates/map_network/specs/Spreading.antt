-- Tables that are put into all their readers.
use Rattle.std.specs.Prelude.{ℕ, List}
use Rattle.map_network.specs.{declared.network.NetTable.NetTable, Joining.IsPut}

-- tables are put into readers, one after the other, and stay in the list
pub data Spreads (old : List NetTable) : List NetTable → Type 0 where
  begins : Spreads old old
  puts : {mid new : List NetTable} {j r : ℕ} → Spreads old mid → IsPut mid j r new → Spreads old new
