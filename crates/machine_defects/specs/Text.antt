-- The text of a list of defects: it has one spelling.
use Rattle.std.specs.Prelude.{ℕ, ◌<◌, ◌==◌, Bool, ◌&&◌, ◌||◌, nat_lt, List, [], ◌∷◌, ◌++◌, map, codes, slice_index_or}
use Rattle.std.specs.Fmt.{decimal}
use Rattle.std.specs.FinSet as set
use Rattle.machine_shape.specs.declared.{Counts.Counts, Shape.Shape}
use Rattle.machine_shape.specs.Vocabulary.{wires_of, crosses_of, tables_of, ends_of, wire_name, table_name}
use Rattle.machine_meaning.specs.Defects.{IsFreeWire, IsFreeCross, IsFreeTable}
use Rattle.base_text.specs.Written.{written, written_line}
use Rattle.machine_defects.specs.declared.entry.Entry.{Entry, TheVariants.Wire, TheVariants.Cross, TheVariants.Table}
use Rattle.machine_defects.specs.Lists.{DefectList, those}

-- the entry is of this machine
abbrev pub IsEntryOf : Shape → Entry → Type 0
IsEntryOf m (Wire w) = w.0 < wires_of m
IsEntryOf m (Cross x) = x.0 < crosses_of m
IsEntryOf m (Table t) = t.0 < tables_of m

-- its words: a crosspoint stands by its tap and its line
abbrev pub entry_words : Shape → Entry → List (List ℕ)
entry_words m (Wire w) = codes "wire" ∷ wire_name m w.0 ∷ []
entry_words m (Cross x) = codes "cross" ∷ wire_name m (ends_of m x.0).0 ∷ wire_name m (ends_of m x.0).1 ∷ []
entry_words m (Table t) = codes "table" ∷ table_name m t.0 ∷ []

-- what the entry lists is free
abbrev pub IsFreeEntry : DefectList → Entry → Type 0
IsFreeEntry d (Wire w) = IsFreeWire d.list w.0
IsFreeEntry d (Cross x) = IsFreeCross d.shape d.list x.0
IsFreeEntry d (Table t) = IsFreeTable d.shape d.list t.0

-- wires come first, then crosspoints, then tables, each by number
abbrev pub kind_of : Entry → ℕ
kind_of (Wire w) = 0
kind_of (Cross x) = 1
kind_of (Table t) = 2

abbrev pub entry_number : Entry → ℕ
entry_number (Wire w) = w.0
entry_number (Cross x) = x.0
entry_number (Table t) = t.0

abbrev pub is_before : Entry → Entry → Bool
is_before a b = nat_lt (kind_of a) (kind_of b) || ((kind_of a == kind_of b) && nat_lt (entry_number a) (entry_number b))

abbrev pub as_wire : ℕ → Entry
as_wire w = Wire (record { 0 = w })

abbrev pub as_cross : ℕ → Entry
as_cross x = Cross (record { 0 = x })

abbrev pub as_table : ℕ → Entry
as_table t = Table (record { 0 = t })

-- the entries of a list, in order
abbrev pub entries_of : DefectList → List Entry
entries_of d =
    map as_wire (those (set.contains d.list.wires) (wires_of d.shape))
    ++ map as_cross (those (set.contains d.list.crosses) (crosses_of d.shape))
    ++ map as_table (those (set.contains d.list.tables) (tables_of d.shape))

-- M C H T P1 P2 P3 L0 L1 L2 L3 N
abbrev pub counts_of : Counts → List ℕ
counts_of c =
    c.modules ∷ c.chips ∷ c.hextants ∷ c.tables ∷ slice_index_or c.ports 0 0 ∷ slice_index_or c.ports 1 0 ∷ slice_index_or c.ports 2 0
    ∷ slice_index_or c.lines 0 0 ∷ slice_index_or c.lines 1 0 ∷ slice_index_or c.lines 2 0 ∷ slice_index_or c.lines 3 0 ∷ c.pins ∷ []

abbrev pub first_row : List (List ℕ)
first_row = codes "defects" ∷ codes "1" ∷ []

abbrev pub shape_row : List ℕ → List (List ℕ)
shape_row ns = codes "shape" ∷ map decimal ns

abbrev pub end_row : List (List ℕ)
end_row = codes "end" ∷ []

-- the lines above the last one, by their words
abbrev pub rows_of : DefectList → List (List (List ℕ))
rows_of d = first_row ∷ shape_row (counts_of d.shape.counts) ∷ map (entry_words d.shape) (entries_of d)

-- the text, with single spaces
unfoldable pub text_of : DefectList → List ℕ
text_of d = written (rows_of d) ++ written_line end_row
