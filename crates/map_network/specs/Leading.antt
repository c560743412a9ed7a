-- Which tables an output needs.
use Rattle.std.specs.Prelude.{◌≡◌, ◌<◌, ℕ, List, Bool, false, length}
use Rattle.std.specs.List.{Contains}
use Rattle.map_network.specs.{declared.source.Source.TheVariants.Table, declared.network.Network.Network, Compacting.is_dropped}
use Rattle.map_network.specs.Merging.{Reads}

-- an output shows the table, or a table reads it that leads to an output
pub data LeadsToOutput (n : Network) : ℕ → Type 0 where
  is_shown : {j : ℕ} → Contains n.outputs (Table j) → LeadsToOutput n j
  is_read : {i j : ℕ} → Reads n i j → LeadsToOutput n i → LeadsToOutput n j

-- each table does
abbrev pub AllLead : Network → Type 0
AllLead n = (j : ℕ) → j < length n.tables → LeadsToOutput n j

-- the marked tables are those that lead to no output
pub record AreUseless (n : Network) (marks : List Bool) : Type 0 where
  pub len : length marks ≡ length n.tables
  pub others : (j : ℕ) → j < length n.tables → is_dropped marks j ≡ false → LeadsToOutput n j
  pub unmarked : (j : ℕ) → LeadsToOutput n j → is_dropped marks j ≡ false
