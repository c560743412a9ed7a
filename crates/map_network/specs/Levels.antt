-- What the search for the depth keeps.
use Rattle.std.specs.Prelude.{◌≡◌, ◌<◌, ◌≤◌, ◌⊎◌, ◌-◌, ℕ, suc, List, Option, None, Some, true, false, length, slice_index_or, sum_by}
use Rattle.std.specs.List.{Contains}
use Rattle.design_netlist.specs.Valuations.{number_at}
use Rattle.map_network.specs.declared.{source.Source.Source, network.Network.Network}
use Rattle.map_network.specs.declared.{source.Source.TheVariants.Input, source.Source.TheVariants.Table, network.NetTable.NetTable}
use Rattle.map_network.specs.declared.longest.{Mark.Mark, Mark.TheVariants.New, Mark.TheVariants.Open, Mark.TheVariants.Done, Search.Search}
use Rattle.map_network.specs.Networks.{no_table, table_at, IsCombinational, IsPath}

abbrev pub mark_at : List Mark → ℕ → Mark
mark_at marks j = slice_index_or marks j (Done 0)

abbrev pub source_at : List Source → ℕ → Source
source_at ins k = slice_index_or ins k (Input 0)

-- the longest path to a table has so many tables. To a latched table leads none
pub record IsLevel (n : Network) (j v : ℕ) : Type 0 where
  pub longest : (k : ℕ) → IsPath n j k → k ≤ v
  pub reached : (v ≡ 0) ⊎ IsPath n j v

-- what a mark may still cost
abbrev pub cost : Mark → ℕ
cost New = 2
cost Open = 1
cost (Done v) = 0

abbrev pub work_of : List Mark → ℕ
work_of marks = sum_by cost marks

abbrev pub is_done : Mark → ℕ
is_done New = 0
is_done Open = 0
is_done (Done v) = 1

abbrev pub done_in : List Mark → ℕ
done_in marks = sum_by is_done marks

-- the open tables are those of the path, each of which reads the next
pub record IsSearch (n : Network) (marks : List Mark) (path : List ℕ) : Type 0 where
  pub len : length marks ≡ length n.tables
  pub opens : (k : ℕ) → k < length path → mark_at marks (number_at path k) ≡ Open
  pub opened : (j : ℕ) → mark_at marks j ≡ Open → (k : ℕ) × (k < length path) × (number_at path k ≡ j)
  pub apart : (i j : ℕ) → i < j → j < length path → number_at path i ≡ number_at path j → ⊥
  pub along : (k : ℕ) → suc k < length path → Contains (table_at n (number_at path k)).ins (Table (number_at path (suc k)))
  pub waiting : (j : ℕ) → (mark_at marks j ≡ New) ⊎ (mark_at marks j ≡ Open) → IsCombinational n j
  pub level : (j v : ℕ) → j < length n.tables → mark_at marks j ≡ Done v → IsLevel n j v
  pub few : (j v : ℕ) → j < length n.tables → mark_at marks j ≡ Done v → v ≤ done_in marks

abbrev pub IsSearching : Network → Search → Type 0
IsSearching n s = IsSearch n s.marks.items s.path.items

-- marks at the start: latched tables are done
pub record AreMarks (tables : List NetTable) (m : ℕ) (marks : List Mark) : Type 0 where
  pub len : length marks ≡ length tables
  pub latched : (j : ℕ) → j < m → (slice_index_or tables j no_table).latched ≡ true → mark_at marks j ≡ Done 0
  pub combinational : (j : ℕ) → j < m → (slice_index_or tables j no_table).latched ≡ false → mark_at marks j ≡ New
  pub later : (j : ℕ) → m ≤ j → j < length tables → mark_at marks j ≡ New

-- a table that was seen isn't new again
abbrev pub StaysSeen : List Mark → List Mark → Type 0
StaysSeen old new = (j : ℕ) → mark_at new j ≡ New → mark_at old j ≡ New

pub record IsLastOf (path : List ℕ) (table : ℕ) : Type 0 where
  pub some : 0 < length path
  pub last : number_at path (length path - 1) ≡ table

-- the last table of the path reads this one, if there is one
abbrev pub IsReadByLast : Network → List ℕ → ℕ → Type 0
IsReadByLast n path table = (k : ℕ) → suc k ≡ length path → Contains (table_at n (number_at path k)).ins (Table table)

abbrev pub IsSourceIn : ℕ → Source → Type 0
IsSourceIn count (Input k) = Unit {0}
IsSourceIn count (Table j) = j < count

abbrev pub AreSourcesIn : ℕ → List Source → Type 0
AreSourcesIn count ins = (k : ℕ) → k < length ins → IsSourceIn count (source_at ins k)

abbrev pub if_new : ℕ → Mark → Option ℕ
if_new j New = Some j
if_new j Open = None
if_new j (Done v) = None

-- the table of the source, if it is new
abbrev pub new_table : List Mark → Source → Option ℕ
new_table marks (Input k) = None
new_table marks (Table j) = if_new j (mark_at marks j)

abbrev pub IsNewAmong : List Mark → List Source → Option ℕ → Type 0
IsNewAmong marks ins None = (k : ℕ) → k < length ins → new_table marks (source_at ins k) ≡ None
IsNewAmong marks ins (Some j) = (k : ℕ) × (k < length ins) × (new_table marks (source_at ins k) ≡ Some j)

abbrev pub level_of : Mark → ℕ
level_of New = 0
level_of Open = 0
level_of (Done v) = v

abbrev pub level_in : List Mark → Source → ℕ
level_in marks (Input k) = 0
level_in marks (Table j) = level_of (mark_at marks j)

-- the greatest of the first m values, or 0
pub record IsMost (f : ℕ → ℕ) (m best : ℕ) : Type 0 where
  pub most : (k : ℕ) → k < m → f k ≤ best
  pub one : (best ≡ 0) ⊎ ((k : ℕ) × (k < m) × (f k ≡ best))

abbrev pub source_level : List Mark → List Source → ℕ → ℕ
source_level marks ins k = level_in marks (source_at ins k)

abbrev pub level_at : List Mark → ℕ → ℕ
level_at marks j = level_of (mark_at marks j)

-- the source is an input, or a table that is done
abbrev pub IsDoneIn : List Mark → Source → Type 0
IsDoneIn marks (Input k) = Unit {0}
IsDoneIn marks (Table j) = (v : ℕ) × (mark_at marks j ≡ Done v)
