-- Networks of tables, and the paths of combinational tables through them.
use Rattle.std.specs.Prelude.{◌≡◌, ◌<◌, ◌≤◌, ℕ, suc, [], true, false, All, length, slice_index_or}
use Rattle.std.specs.List.{Contains}
use Rattle.map_network.specs.declared.{source.Source.Source, network.Network.Network}
use Rattle.map_network.specs.declared.{source.Source.TheVariants.Input, source.Source.TheVariants.Table, network.NetTable.NetTable}

abbrev pub no_table : NetTable
no_table = record { ins = []; cells = 0; latched = false; init = false }

abbrev pub table_at : Network → ℕ → NetTable
table_at n j = slice_index_or n.tables j no_table

pub record IsCombinational (n : Network) (j : ℕ) : Type 0 where
  pub within : j < length n.tables
  pub latched : (table_at n j).latched ≡ false

pub record IsLatched (n : Network) (j : ℕ) : Type 0 where
  pub within : j < length n.tables
  pub latched : (table_at n j).latched ≡ true

-- a source names an input of the network or a table of it
abbrev pub IsSourceOf : Network → Source → Type 0
IsSourceOf n (Input k) = k < n.inputs
IsSourceOf n (Table j) = j < length n.tables

-- so many combinational tables, each of which reads the one before, lead to j
pub data IsPath (n : Network) : ℕ → ℕ → Type 0 where
  alone : {j : ℕ} → IsCombinational n j → IsPath n j 1
  onward : {i j k : ℕ} → IsPath n i k → IsCombinational n j → Contains (table_at n j).ins (Table i) → IsPath n j (suc k)

-- no path is longer. On a cycle there are paths of any length
abbrev pub IsDeepest : Network → ℕ → Type 0
IsDeepest n depth = (j k : ℕ) → IsPath n j k → k ≤ depth

-- what no path of the first is longer than, no path of the second is longer than
abbrev pub IsNoDeeper : Network → Network → Type 0
IsNoDeeper n m = (depth : ℕ) → IsDeepest n depth → IsDeepest m depth

-- sources are in range, tables have at most six inputs and aren't too many, and combinational tables have no cycle
pub record IsNetwork (n : Network) : Type 0 where
  pub few : length n.tables < 4294967296
  pub narrow : All (λ t. length t.ins ≤ 6) n.tables
  pub sources : All (λ t. All (IsSourceOf n) t.ins) n.tables
  pub outputs : All (IsSourceOf n) n.outputs
  pub acyclic : (depth : ℕ) × IsDeepest n depth
