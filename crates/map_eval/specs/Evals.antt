-- A network that is run, vector by vector.
use Rattle.std.specs.Prelude.{◌≡◌, ◌<◌, ◌⊎◌, ℕ, List, Bool, length}
use Rattle.map_network.specs.{declared.network.Network.Network, Rows.RowsFrom, Rows.AreRows}
use Rattle.map_eval.specs.States.{value_in, IsOrdered}

-- a network, and what its tables give next
pub record NetworkState : Type 0 where
  pub network : Network
  pub given : List Bool

-- rows for these vectors, from here on
abbrev pub RowsOn : NetworkState → (vectors rows : List (List Bool)) → Type 0
RowsOn e vectors rows = RowsFrom e.network (value_in e.given) vectors rows

-- rows from here on are the network's rows
pub record IsFirst (n : Network) (e : NetworkState) : Type 0 where
  pub inputs : e.network.inputs ≡ n.inputs
  pub outputs : length e.network.outputs ≡ length n.outputs
  pub rows : (vectors rows : List (List Bool)) → RowsOn e vectors rows → AreRows n vectors rows

-- it has too many tables, or a combinational one of them reads one that isn't before it
abbrev pub IsNotInOrder : Network → Type 0
IsNotInOrder n = (65000 < length n.tables) ⊎ (IsOrdered n → ⊥)
