-- What the steps of reading a text give.
use Rattle.std.specs.Prelude.{◌≡◌, ℕ, ◌≤◌, ◌==◌, Bool, true, false, not, ◌&&◌, ◌||◌, Option, Some, None, List, [], ◌∷◌, ◌++◌, codes}
use Rattle.std.specs.{List.list_all, List.flat_map, Fmt.decimal}
use Rattle.std.specs.FinSet as set
use Rattle.machine_shape.specs.declared.Shape.{Shape}
use Rattle.base_text.specs.Written.{written, written_line}
use Rattle.machine_defects.specs.declared.entry.Entry.{Entry, TheVariants.Wire, TheVariants.Cross, TheVariants.Table}
use Rattle.machine_defects.specs.{declared.form.Form.Form, Lists.DefectList, Lists.IsDefectList, Faults.IsLineFault, Faults.IsFirstFault}
use Rattle.machine_defects.specs.declared.form.Form.TheVariants as form
use Rattle.machine_defects.specs.declared.kind.DefectsFault.{DefectsFault, TheVariants.At, TheVariants.Memory}
use Rattle.machine_defects.specs.declared.read.Step.{Step, TheVariants.Further, TheVariants.End, TheVariants.Refused}
use Rattle.machine_defects.specs.Text.{entry_words, kind_of, entry_number, is_before, entries_of, end_row, rows_of}

-- the byte doesn't stand among the bytes
abbrev pub without : ℕ → List ℕ → Bool
without s bytes = list_all (λ b. not (b == s)) bytes

-- the words of a line by its form
abbrev pub row_of : Form → List (List ℕ)
row_of (form.Wire name) = codes "wire" ∷ name.now ∷ []
row_of (form.Cross tap line) = codes "cross" ∷ tap.now ∷ line.now ∷ []
row_of (form.Table name) = codes "table" ∷ name.now ∷ []

-- each number behind a space
abbrev pub numerals : List ℕ → List ℕ
numerals ns = flat_map (λ n. 32 ∷ decimal n) ns

-- whether the list has the entry, and whether two entries are the same
abbrev pub is_listed : DefectList → Entry → Bool
is_listed d (Wire w) = set.contains d.list.wires w.0
is_listed d (Cross x) = set.contains d.list.crosses x.0
is_listed d (Table t) = set.contains d.list.tables t.0

abbrev pub is_same : Entry → Entry → Bool
is_same a b = (kind_of a == kind_of b) && (entry_number a == entry_number b)

-- the last of the entries, if there is one
abbrev pub IsLast : List Entry → Option Entry → Type 0
IsLast es None = es ≡ []
IsLast es (Some e) = (above : List Entry) × (es ≡ above ++ e ∷ [])

-- whether an entry is before the last one
abbrev pub is_behind : Entry → Option Entry → Bool
is_behind e None = false
is_behind e (Some last) = is_before e last

-- the entry is behind all that is listed
abbrev pub IsBeyond : DefectList → Entry → Type 0
IsBeyond d e = (a : Entry) → is_listed d a ≡ true → is_before a e ≡ true

-- the list with what the entry lists
pub record IsAdded (d : DefectList) (e : Entry) (d2 : DefectList) : Type 0 where
  pub shape : d2.shape ≡ d.shape
  pub more : (a : Entry) → is_listed d2 a ≡ (is_same a e || is_listed d a)

-- what is read so far: the lines above, which list these defects, and the bytes that are left
pub record IsReadTo (m : Shape) (bytes left : List ℕ) (d : DefectList) (last : Option Entry) : Type 0 where
  pub shape : d.shape ≡ m
  pub right : IsDefectList d
  pub parts : bytes ≡ written (rows_of d) ++ left
  pub is_last : IsLast (entries_of d) last

-- a line of the list is read
abbrev pub Steps : DefectList → Option Entry → List ℕ → Step → DefectList → Option Entry → Type 0
Steps d last left (Further rest) d2 last2 = (e : Entry) × (left ≡ written_line (entry_words d.shape e) ++ rest.now) × (d2.shape ≡ d.shape)
    × IsDefectList d2 × (entries_of d2 ≡ entries_of d ++ e ∷ []) × IsLast (entries_of d2) last2
Steps d last left (End rest) d2 last2 = (left ≡ written_line end_row ++ rest.now) × (d2 ≡ d)
Steps d last left (Refused kind) d2 last2 = (above : ℕ) → 2 ≤ above → IsLineFault d above left kind

-- the first fault; of a lack of memory nothing is said
abbrev pub IsFirst : Shape → List ℕ → DefectsFault → Type 0
IsFirst m bytes Memory = Unit {0}
IsFirst m bytes (At number kind) = IsFirstFault m bytes number kind
