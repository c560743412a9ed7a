-- Marks of what tests have found bad, when they are true, and what finding them may cost.
use Rattle.std.specs.Prelude.{◌≡◌, ◌≢◌, ◌⊎◌, ℕ, ◌+◌, ◌*◌, ◌≤◌, Bool, true, not, ◌&&◌, Option, Some, None, List, [], length, slice_get}
use Rattle.base_bits.specs.Numbers.{has_number}
use Rattle.machine_shape.specs.{declared.Shape.Shape, declared.Table.Table, Shape.wires_of, Shape.crosses_of, Shape.tables_of}
use Rattle.machine_meaning.specs.Vocabulary.{Faults, stuck_cross, IsClear, IsAlone, IsRightTable}
use Rattle.diag_evidence.specs.Kept.{Kept, HoldsFor, keeps_cross}
use Rattle.diag_known.specs.{Vocabulary.HasWire, Vocabulary.how_many, Vocabulary.pins_in, declared.verified_wire.VerifiedWire.VerifiedWire}
use Rattle.diag_known.specs.declared.field.Field.{Field}
use Rattle.diag_sweep.specs.declared.defect_marks.DefectMarks.{DefectMarks}

-- there is a mark for each crosspoint, wire and table of the machine
pub record AreMarksFor (m : Shape) (b : DefectMarks) : Type 0 where
  pub stuck : length b.stuck ≡ crosses_of m
  pub unfit : length b.unfit ≡ wires_of m
  pub unclear : length b.unclear ≡ wires_of m
  pub wrong : length b.wrong ≡ tables_of m

-- True marks: a crosspoint marked stuck is stuck; a wire marked unfit isn't clear, or is shorted to one of these wires; a wire marked
-- unclear isn't clear; and a table marked wrong has a wrong cell or a stuck register.
pub record AreTrueMarks (m : Shape) (f : Faults) (wires : ℕ → Type 0) (b : DefectMarks) : Type 0 where
  pub stuck : (x : ℕ) → has_number b.stuck x ≡ true → stuck_cross f x ≢ None
  pub unfit : (w : ℕ) → has_number b.unfit w ≡ true → IsClear m f w → ¬ IsAlone m f wires w
  pub unclear : (w : ℕ) → has_number b.unclear w ≡ true → ¬ IsClear m f w
  pub wrong : (t : ℕ) → has_number b.wrong t ≡ true → ¬ IsRightTable f t

-- .. for what is known; and what is kept is true too, where the faults are told
pub record TrueIf (told : Option Faults) (k : Kept) (ss : List VerifiedWire) (b : DefectMarks) : Type 0 where
  pub at : (f : Faults) → told ≡ Some f → HoldsFor k f × AreTrueMarks k.shape f (HasWire ss) b

-- the table is one of these
pub record HasTable (tables : List Table) (t : ℕ) : Type 0 where
  pub place : ℕ
  pub table : Table
  pub here : slice_get tables place ≡ Some table
  pub is : table.0 ≡ t

-- what was marked still is, and each new mark is of one of these
pub record MarksSome (these : ℕ → Type 0) (was is : List Bool) : Type 0 where
  pub len : length is ≡ length was
  pub stays : (i : ℕ) → has_number was i ≡ true → has_number is i ≡ true
  pub within : (i : ℕ) → has_number is i ≡ true → (has_number was i ≡ true) ⊎ these i

-- .. of the crosspoints and wires of a field, and of these tables
pub record MarksIn (a : Field) (tables : List Table) (old new : DefectMarks) : Type 0 where
  pub stuck : MarksSome (λ x. has_number a.crosses x ≡ true) old.stuck new.stuck
  pub unfit : MarksSome (λ w. has_number a.wires w ≡ true) old.unfit new.unfit
  pub unclear : MarksSome (λ w. has_number a.wires w ≡ true) old.unclear new.unclear
  pub wrong : MarksSome (HasTable tables) old.wrong new.wrong

-- What a choice leaves of the marks: they stay but for those of unfit wires, and each new mark is of the field, and of no table.
pub record MarksButUnfit (a : Field) (old new : DefectMarks) : Type 0 where
  pub stuck : MarksSome (λ x. has_number a.crosses x ≡ true) old.stuck new.stuck
  pub unfit : (w : ℕ) → has_number new.unfit w ≡ true → (has_number old.unfit w ≡ true) ⊎ (has_number a.wires w ≡ true)
  pub unclear : MarksSome (λ w. has_number a.wires w ≡ true) old.unclear new.unclear
  pub wrong : MarksSome (HasTable []) old.wrong new.wrong

-- a crosspoint that is neither kept nor marked stuck
abbrev pub is_undecided : Kept → DefectMarks → ℕ → Bool
is_undecided k b x = not (keeps_cross k x) && not (has_number b.stuck x)

-- how many crosspoints of the field are undecided
abbrev pub undecided : Kept → DefectMarks → Field → ℕ
undecided k b a = how_many (λ x. has_number a.crosses x && is_undecided k b x) (length a.crosses)

-- the loads so far, those that are left, and two for each crosspoint of the field that is undecided
abbrev pub worth : Field → Kept → DefectMarks → (loads left : ℕ) → ℕ
worth a k b loads left = loads + (left + 2 * undecided k b a)

-- at most a load for each pin of the machine in the field, and two for each crosspoint of the field that was undecided and isn't any more
abbrev pub Pays : Field → Kept → DefectMarks → ℕ → Kept → DefectMarks → ℕ → Type 0
Pays a k b before l c after = after + 2 * undecided l c a ≤ before + (pins_in k.shape a + 2 * undecided k b a)
