-- The text of faults: one entry a line.
use Rattle.std.specs.Prelude.{ℕ, ◌≡◌, Bool, true, false, codes, None, List, [], ◌∷◌, map}
use Rattle.std.specs.Fmt.{decimal}
use Rattle.machine_shape.specs.{declared.Shape.Shape, Vocabulary.ends_of, Vocabulary.wire_name, Vocabulary.table_name}
use Rattle.machine_meaning.specs.Faults.{Faults}
use Rattle.base_text.specs.Lines.{logical_lines}
use Rattle.machine_faults.specs.{declared.fault.Fault.Fault, Adding.no_faults, Adding.with_fault, Adding.refusal_of, Adding.CanHave}
use Rattle.machine_faults.specs.declared.fault.Fault.TheVariants.{Stuck, CrossStuck, Cell, Register, Bridge}
use Rattle.machine_faults.specs.{declared.head.Head.Head, Heads.word_of}
use Rattle.machine_faults.specs.declared.head.Head.TheVariants as head

abbrev pub bit_word : Bool → List ℕ
bit_word false = codes "0"
bit_word true = codes "1"

-- the names of a crosspoint's tap and line
abbrev pub end_names : Shape → ℕ → List (List ℕ)
end_names m x = wire_name m (ends_of m x).0 ∷ wire_name m (ends_of m x).1 ∷ []

-- the first word of an entry, and those that follow
abbrev pub head_of : Fault → Head
head_of (Stuck wire false) = head.Stuck0
head_of (Stuck wire true) = head.Stuck1
head_of (CrossStuck cross false) = head.Open
head_of (CrossStuck cross true) = head.Closed
head_of (Cell table address value) = head.Cell
head_of (Register table value) = head.Register
head_of (Bridge a b) = head.Bridge

abbrev pub rest_of : Shape → Fault → List (List ℕ)
rest_of m (Stuck wire value) = wire_name m wire.0 ∷ []
rest_of m (CrossStuck cross closed) = end_names m cross.0
rest_of m (Cell table address value) = table_name m table.0 ∷ decimal address ∷ bit_word value ∷ []
rest_of m (Register table value) = table_name m table.0 ∷ bit_word value ∷ []
rest_of m (Bridge a b) = wire_name m a.0 ∷ wire_name m b.0 ∷ []

abbrev pub fault_words : Shape → Fault → List (List ℕ)
fault_words m x = word_of (head_of x) ∷ rest_of m x

-- the faults with further ones, and that each of them may be added to those before it
abbrev pub with_all : Faults → List Fault → Faults
with_all f [] = f
with_all f (x ∷ xs) = with_all (with_fault f x) xs

abbrev pub AreAdded : Shape → Faults → List Fault → Type 0
AreAdded m f [] = Unit {0}
AreAdded m f (x ∷ xs) = CanHave m x × (refusal_of m f x ≡ None) × AreAdded m (with_fault f x) xs

-- a text gives these faults of a machine: each of its lines is an entry, and these are all its entries
pub record IsFaultText (m : Shape) (bytes : List ℕ) (f : Faults) : Type 0 where
  pub entries : List Fault
  pub rows : map (λ l. l.words) (logical_lines false bytes) ≡ map (fault_words m) entries
  pub added : AreAdded m no_faults entries
  pub all : with_all no_faults entries ≡ f
