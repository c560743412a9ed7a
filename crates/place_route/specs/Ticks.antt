-- How many ticks a network takes.
use Rattle.std.specs.Prelude.{◌≡◌, ℕ, nat_lt, if◌then◌else◌}
use Rattle.map_network.specs.{declared.network.Network.Network, Depths.IsDepth}

-- its depth, and at least 1
abbrev pub AreTicks : Network → ℕ → Type 0
AreTicks n ticks = (depth : ℕ) × IsDepth n depth × (ticks ≡ (if nat_lt 0 depth then depth else 1))
