-- What the passes of merging keep.
use Rattle.std.specs.Prelude.{◌≡◌, ℕ, List, true}
use Rattle.map_network.specs.{declared.network.NetTable.NetTable, declared.network.Network.Network, Merges.none_gone, Merges.IsMergedFrom}
use Rattle.map_network.specs.{declared.merge.Found.Found, Leading.AllLead}
use Rattle.map_network.specs.{Joining.DoesSame, Joining.IsReduced, Joining.Puts, Compacting.is_dropped, Compacting.IsClosed}

-- tables were put into readers, the given one among them, and nothing that stands reads one of these
pub record IsFound (n : Network) (j : ℕ) (found : Found) : Type 0 where
  pub tables : List NetTable
  pub is : found.network ≡ record { inputs = n.inputs; tables = tables; outputs = n.outputs }
  pub puts : Puts n.tables (none_gone n) tables found.gone.items
  pub closed : IsClosed found.gone.items tables n.outputs
  pub gone : is_dropped found.gone.items j ≡ true

-- fewer tables do the same, by steps
pub record IsSmaller (n m : Network) : Type 0 where
  pub reduced : IsReduced n m
  pub merged : (start : Network) → IsMergedFrom start n → IsMergedFrom start m
  pub lead : AllLead n → AllLead m

-- what each network of the passes is
pub record IsMergedOf (n m : Network) : Type 0 where
  pub same : DoesSame n m
  pub merged : IsMergedFrom n m
  pub lead : AllLead m
