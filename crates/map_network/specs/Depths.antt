-- The depth of a network.
use Rattle.std.specs.Prelude.{◌≡◌, ◌⊎◌, ℕ}
use Rattle.map_network.specs.{declared.network.Network.Network, Networks.IsPath, Networks.IsDeepest}

-- the greatest number of combinational tables on a path
pub record IsDepth (n : Network) (depth : ℕ) : Type 0 where
  pub longest : IsDeepest n depth
  pub reached : (depth ≡ 0) ⊎ ((j : ℕ) × IsPath n j depth)
