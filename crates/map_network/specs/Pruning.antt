-- What the search for the tables that lead to an output keeps.
use Rattle.std.specs.Prelude.{◌≡◌, ◌+◌, ◌<◌, ◌⊎◌, ◌++◌, ℕ, List, [], ◌∷◌, Bool, true, false, length, slice_set, slice_index_or, sum_by}
use Rattle.std.specs.List.{Contains}
use Rattle.map_network.specs.{declared.source.Source.Source, Networks.table_at, Joining.DoesSame, Merges.IsMergedFrom}
use Rattle.map_network.specs.declared.{source.Source.TheVariants.Input, source.Source.TheVariants.Table, network.Network.Network}
use Rattle.map_network.specs.{Compacting.is_dropped, Compacting.AreKept, Compacting.IsKept, Leading.AllLead, Leading.LeadsToOutput}

abbrev pub if_marked : Bool → ℕ
if_marked true = 1
if_marked false = 0

-- how many are marked
abbrev pub marked_in : List Bool → ℕ
marked_in marks = sum_by if_marked marks

-- the source is no marked table, and nothing changes
pub record IsAsBefore (source : Source) (marks : List Bool) (queue : List ℕ) (now : List Bool) (waiting : List ℕ) : Type 0 where
  pub kept : IsKept marks source
  pub marks_same : now ≡ marks
  pub queue_same : waiting ≡ queue

-- it is a marked table, which loses its mark and waits
pub record IsTaken (source : Source) (marks : List Bool) (queue : List ℕ) (now : List Bool) (waiting : List ℕ) : Type 0 where
  pub table : ℕ
  pub is : source ≡ Table table
  pub marked : is_dropped marks table ≡ true
  pub taken : now ≡ slice_set marks table false
  pub put : waiting ≡ queue ++ table ∷ []

abbrev pub IsUsed : Source → List Bool → List ℕ → List Bool → List ℕ → Type 0
IsUsed source marks queue now waiting = IsAsBefore source marks queue now waiting ⊎ IsTaken source marks queue now waiting

-- the first k sources are used: those of them that were marked wait
pub record AreUsed (sources : List Source) (k : ℕ) (marks : List Bool) (queue : List ℕ) (now : List Bool) (waiting : List ℕ) : Type 0 where
  pub len : length now ≡ length marks
  pub stays : (j : ℕ) → is_dropped marks j ≡ false → is_dropped now j ≡ false
  pub fresh : (j : ℕ) → is_dropped now j ≡ false → (is_dropped marks j ≡ false) ⊎ (Contains waiting j × Contains sources (Table j))
  pub waits : (j : ℕ) → Contains queue j → Contains waiting j
  pub waited : (j : ℕ) → Contains waiting j → Contains queue j ⊎ (is_dropped now j ≡ false)
  pub kept : (i : ℕ) → i < k → IsKept now (slice_index_or sources i (Input 0))
  pub less : marked_in now + length waiting ≡ marked_in marks + length queue

-- what isn't marked leads to an output, and waits, or no table that it reads is marked
pub record IsFollowing (n : Network) (marks : List Bool) (queue : List ℕ) : Type 0 where
  pub len : length marks ≡ length n.tables
  pub lead : (j : ℕ) → j < length n.tables → is_dropped marks j ≡ false → LeadsToOutput n j
  pub waiting : (j : ℕ) → Contains queue j → is_dropped marks j ≡ false
  pub followed : (j : ℕ) → j < length n.tables → is_dropped marks j ≡ false → Contains queue j ⊎ AreKept marks (table_at n j).ins
  pub outputs : AreKept marks n.outputs

-- the network without the tables that lead to no output
pub record IsPruned (n m : Network) : Type 0 where
  pub same : DoesSame n m
  pub lead : AllLead m
  pub merged : (start : Network) → IsMergedFrom start n → IsMergedFrom start m
