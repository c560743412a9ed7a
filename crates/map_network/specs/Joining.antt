-- A table that is put into its reader, and who reads a table.
use Rattle.std.specs.Prelude.{◌≡◌, ◌+◌, ◌*◌, ◌<◌, ◌≤◌, ◌==◌, ◌&&◌, ◌↔◌, replicate, ℕ, List, [], ◌∷◌, Bool, true, false, map, nat_lt, length}
use Rattle.std.specs.Prelude.{slice_set, slice_index_or, if◌then◌else◌}
use Rattle.std.specs.List.{range_with_len, Contains}
use Rattle.map_network.specs.declared.{source.Source.Source, network.Network.Network, readers.Readers.Readers}
use Rattle.map_network.specs.declared.{source.Source.TheVariants.Input, source.Source.TheVariants.Table, network.NetTable.NetTable}
use Rattle.map_network.specs.{Networks.no_table, Networks.IsNetwork, Networks.IsNoDeeper, Rows.number_of, Rows.cell_at, Rows.AreRows}
use Rattle.map_network.specs.{Plain.distinct, Plain.pin_named, Plain.cells_where, Merging.number, Merging.numbers_without, Merging.Reads}

-- the bit of a source, by the pins of the inputs with these numbers. The table j has a given bit
abbrev pub bit_with : List ℕ → List Bool → ℕ → Bool → Source → Bool
bit_with numbers pins j given s = if number s == 2 * j + 1 then given else pin_named numbers pins (number s)

-- the address of a table that reads these sources
abbrev pub address_by : (Source → Bool) → List Source → ℕ
address_by f ins = number_of (map (λ k. slice_index_or (map f ins) k true) (range_with_len 0 6))

-- what the reader gives where what the table gives is its input
unfoldable pub joined_truth : List ℕ → ℕ → NetTable → NetTable → List Bool → Bool
joined_truth numbers j inner reader pins =
    cell_at reader.cells (address_by (bit_with numbers pins j
    (cell_at inner.cells (address_by (bit_with numbers pins j true) inner.ins))) reader.ins)

-- the reader with the table put into it
pub record IsJoined (j : ℕ) (inner reader joined : NetTable) : Type 0 where
  pub few : length joined.ins ≤ 6
  pub ins : map number joined.ins ≡ distinct (numbers_without j reader.ins inner.ins)
  pub cells : joined.cells ≡ cells_where (joined_truth (map number joined.ins) j inner reader)
  pub latched : joined.latched ≡ reader.latched
  pub init : joined.init ≡ reader.init

abbrev pub in_tables : List NetTable → ℕ → NetTable
in_tables tables j = slice_index_or tables j no_table

-- a combinational table with another one that reads it, which have at most six sources together
pub record MayPut (tables : List NetTable) (j r : ℕ) : Type 0 where
  pub within : j < length tables
  pub reader : r < length tables
  pub apart : j ≡ r → ⊥
  pub latched : (in_tables tables j).latched ≡ false
  pub reads : Contains (in_tables tables r).ins (Table j)
  pub few : length (distinct (numbers_without j (in_tables tables r).ins (in_tables tables j).ins)) ≤ 6

-- the table is put into the reader, and stays in the list
pub record IsPut (old : List NetTable) (j r : ℕ) (new : List NetTable) : Type 0 where
  pub may : MayPut old j r
  pub table : NetTable
  pub joined : IsJoined j (in_tables old j) (in_tables old r) table
  pub set : new ≡ slice_set old r table

-- so it is where neither is gone yet. The table is gone then
pub record IsPutOn (old : List NetTable) (gone : List Bool) (j r : ℕ) (new : List NetTable) (now : List Bool) : Type 0 where
  pub put : IsPut old j r new
  pub stands : slice_index_or gone j false ≡ false
  pub reader : slice_index_or gone r false ≡ false
  pub marked : now ≡ slice_set gone j true

-- tables are put into readers, one after the other
pub data Puts : List NetTable → List Bool → List NetTable → List Bool → Type 0 where
  none : {tables : List NetTable} {gone : List Bool} → Puts tables gone tables gone
  more : {a b c : List NetTable} {f g h : List Bool} {j r : ℕ} → Puts a f b g → IsPutOn b g j r c h → Puts a f c h

-- readers

abbrev pub unread : Readers
unread = record { count = 0; last = 0 }

abbrev pub readers_at : List Readers → ℕ → Readers
readers_at readers x = slice_index_or readers x unread

-- a count that stays at the greatest one
abbrev pub one_more : ℕ → ℕ
one_more count = if nat_lt count 4294967295 then count + 1 else count

-- one more reader, if it isn't the last one again
abbrev pub with_reader : Readers → ℕ → Readers
with_reader x r = if nat_lt 0 x.count && (x.last == r) then x else record { count = one_more x.count; last = r }

abbrev pub noted_one : ℕ → Source → List Readers → List Readers
noted_one r (Input k) readers = readers
noted_one r (Table x) readers = slice_set readers x (with_reader (readers_at readers x) r)

-- r reads these sources
abbrev pub noted : ℕ → List Source → List Readers → List Readers
noted r [] readers = readers
noted r (s ∷ ss) readers = noted r ss (noted_one r s readers)

-- these tables are the readers from r on
abbrev pub noted_tables : ℕ → List NetTable → List Readers → List Readers
noted_tables r [] readers = readers
noted_tables r (t ∷ ts) readers = noted_tables (r + 1) ts (noted r t.ins readers)

-- the readers of each table. What outputs show is read by the number behind the last table
unfoldable pub all_readers : List NetTable → List Source → List Readers
all_readers tables outputs = noted (length tables) outputs (noted_tables 0 tables (replicate (length tables) unread))

-- no table reads j, and no output shows it
pub record IsUnread (n : Network) (j : ℕ) : Type 0 where
  pub tables : (i : ℕ) → Reads n i j → ⊥
  pub outputs : Contains n.outputs (Table j) → ⊥

-- fewer tables do the same
pub record IsReduced (n m : Network) : Type 0 where
  pub network : IsNetwork m
  pub rows : (vectors rows : List (List Bool)) → AreRows n vectors rows ↔ AreRows m vectors rows
  pub inputs : m.inputs ≡ n.inputs
  pub outputs : length m.outputs ≡ length n.outputs
  pub less : length m.tables < length n.tables
  pub shallow : IsNoDeeper n m

-- no more tables do the same
pub record DoesSame (n m : Network) : Type 0 where
  pub network : IsNetwork m
  pub rows : (vectors rows : List (List Bool)) → AreRows n vectors rows ↔ AreRows m vectors rows
  pub fewer : length m.tables ≤ length n.tables
  pub shallow : IsNoDeeper n m
  pub inputs : m.inputs ≡ n.inputs
  pub outputs : length m.outputs ≡ length n.outputs
