-- Which tables can be put into their readers.
use Rattle.std.specs.Prelude.{◌≡◌, ◌+◌, ◌*◌, ◌<◌, ◌≤◌, ◌==◌, ◌++◌, ℕ, List, not, map, length}
use Rattle.std.specs.List.{Contains, filter}
use Rattle.map_network.specs.{declared.source.Source.Source, Networks.table_at, Networks.IsCombinational, Plain.distinct}
use Rattle.map_network.specs.declared.{source.Source.TheVariants.Input, source.Source.TheVariants.Table, network.Network.Network}

-- a number for each source, so that different sources have different ones
abbrev pub number : Source → ℕ
number (Input k) = 2 * k
number (Table j) = 2 * j + 1

-- the numbers of the sources of two lists, without those of the table
abbrev pub numbers_without : ℕ → List Source → List Source → List ℕ
numbers_without j first second = filter (λ x. not (x == 2 * j + 1)) (map number (first ++ second))

-- how many different sources a table and its reader have together, without the table itself
abbrev pub sources_together : Network → ℕ → ℕ → ℕ
sources_together n j r = length (distinct (numbers_without j (table_at n r).ins (table_at n j).ins))

-- table r reads table j
pub record Reads (n : Network) (r j : ℕ) : Type 0 where
  pub within : r < length n.tables
  pub at : Contains (table_at n r).ins (Table j)

-- j is combinational, r alone reads it, and both have at most six sources together
pub record CanJoin (n : Network) (j r : ℕ) : Type 0 where
  pub combinational : IsCombinational n j
  pub reads : Reads n r j
  pub alone : (i : ℕ) → Reads n i j → i ≡ r
  pub unshown : Contains n.outputs (Table j) → ⊥
  pub few : sources_together n j r ≤ 6

-- no table can be put into its reader
abbrev pub IsWhole : Network → Type 0
IsWhole n = (j r : ℕ) → CanJoin n j r → ⊥
