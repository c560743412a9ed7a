-- Which fault a text has, and where.
use Rattle.std.specs.Prelude.{ℕ, ◌≡◌, ◌≢◌, ◌⊎◌, ◌<◌, ◌≤◌, true, false, Some, None, List, [], ◌∷◌, ◌++◌, length, map, Result, Ok, Err}
use Rattle.machine_shape.specs.declared.Shape.{Shape}
use Rattle.machine_shape.specs.Vocabulary.{wires_of, crosses_of, wire_name, most_text}
use Rattle.machine_meaning.specs.Faults.{Faults}
use Rattle.base_text.specs.{declared.lines.LineFault.LineFault, Vocabulary.LogicalLine, Vocabulary.logical_lines, Vocabulary.is_bad_line}
use Rattle.base_text.specs.declared.lines.LineFault.TheVariants as line
use Rattle.machine_faults.specs.declared.{fault.Fault.Fault, head.Head.Head}
use Rattle.machine_faults.specs.declared.{fault.AddFault.AddFault, kind.FaultsFault.TheVariants.At, kind.FaultsFault.TheVariants.Memory}
use Rattle.machine_faults.specs.declared.fault.AddFault.TheVariants as add
use Rattle.machine_faults.specs.declared.head.Head.TheVariants as head
use Rattle.machine_faults.specs.{declared.kind.FaultsKind.FaultsKind, Text.end_names, Text.fault_words, Text.with_all, Text.AreAdded}
use Rattle.machine_faults.specs.declared.kind.FaultsKind.TheVariants.{Byte, Word, Wire, Cross, Cell, Register, Same, Doubled, Against}
use Rattle.machine_faults.specs.declared.kind.FaultsKind.TheVariants.{Limit}
use Rattle.machine_faults.specs.{declared.kind.FaultsFault.FaultsFault, Heads.word_of, Heads.follow_of, Heads.has_wires, Heads.has_cross}
use Rattle.machine_faults.specs.Adding.{Faulty, no_faults, with_fault, refusal_of, CanHave}

abbrev pub IsWireName : Shape → List ℕ → Type 0
IsWireName m word = (w : ℕ) × (w < wires_of m) × (wire_name m w ≡ word)

abbrev pub AreWireNames : Shape → List (List ℕ) → Type 0
AreWireNames m [] = Unit {0}
AreWireNames m (word ∷ words) = IsWireName m word × AreWireNames m words

-- no fault has these words behind a first word
abbrev pub IsNoFault : Shape → Head → List (List ℕ) → Type 0
IsNoFault m h rest = (x : Fault) → CanHave m x → fault_words m x ≢ word_of h ∷ rest

-- what is wrong with the words behind a first word
abbrev pub IsRestFault : Shape → Head → List (List ℕ) → FaultsKind → Type 0
IsRestFault m h rest Wire = (has_wires h ≡ true) × ¬ AreWireNames m rest
IsRestFault m h rest Cross = (has_cross h ≡ true) × AreWireNames m rest × ((x : ℕ) → x < crosses_of m → end_names m x ≢ rest)
IsRestFault m h rest Cell = (h ≡ head.Cell) × IsNoFault m h rest
IsRestFault m h rest Register = (h ≡ head.Register) × IsNoFault m h rest
IsRestFault m h rest _ = ⊥

-- the first word of an entry, with as many words behind it as it has
pub record IsForm (words : List (List ℕ)) (h : Head) (rest : List (List ℕ)) : Type 0 where
  pub all : word_of h ∷ rest ≡ words
  pub size : length rest ≡ follow_of h

-- what is wrong with the words of a line that are no entry
pub data IsNoEntry (m : Shape) (words : List (List ℕ)) : FaultsKind → Type 0 where
  formless : ((h : Head) (rest : List (List ℕ)) → ¬ IsForm words h rest) → IsNoEntry m words Word
  formed : {kind : FaultsKind} (h : Head) (rest : List (List ℕ)) → IsForm words h rest → IsRestFault m h rest kind → IsNoEntry m words kind

-- what adding refuses
abbrev pub kind_of : AddFault → FaultsKind
kind_of add.Same = Same
kind_of add.Doubled = Doubled
kind_of add.Against = Against
kind_of add.Limit = Limit
kind_of add.Memory = Limit

-- what is wrong with a line below which these faults stand
pub data IsLineFault (m : Shape) (f : Faults) (l : LogicalLine) : FaultsKind → Type 0 where
  bad : is_bad_line l ≡ true → IsLineFault m f l Byte
  no_entry : {kind : FaultsKind} → is_bad_line l ≡ false → IsNoEntry m l.words kind → IsLineFault m f l kind
  refused : (x : Fault) (why : AddFault) → is_bad_line l ≡ false → fault_words m x ≡ l.words → CanHave m x → refusal_of m f x ≡ Some why →
      IsLineFault m f l (kind_of why)

-- the first line that has a fault: those above it are entries
pub record IsFirstFault (m : Shape) (lines : List LogicalLine) (number : ℕ) (kind : FaultsKind) : Type 0 where
  pub above : List LogicalLine
  pub line : LogicalLine
  pub below : List LogicalLine
  pub parts : above ++ line ∷ below ≡ lines
  pub entries : List Fault
  pub rows : map (λ l. l.words) above ≡ map (fault_words m) entries
  pub added : AreAdded m no_faults entries
  pub here : line.number ≡ number
  pub fault : IsLineFault m (with_all no_faults entries) line kind

-- too many bytes are a fault of the whole text
abbrev pub IsFaultAt : Shape → List ℕ → ℕ → FaultsKind → Type 0
IsFaultAt m bytes number kind =
    ((most_text m < length bytes) × (number ≡ 0) × (kind ≡ Limit))
    ⊎ ((length bytes ≤ most_text m) × IsFirstFault m (logical_lines false bytes) number kind)

-- a text is refused for its first fault; of a lack of memory nothing is said
abbrev pub IsRefusedAs : Shape → List ℕ → FaultsFault → Type 0
IsRefusedAs m bytes Memory = Unit {0}
IsRefusedAs m bytes (At line kind) = IsFaultAt m bytes line kind

-- a call gives these faults, or memory was lacking
abbrev pub GivesOrLacks : Faulty → Result Faulty FaultsFault → Type 0
GivesOrLacks s (Ok t) = t ≡ s
GivesOrLacks s (Err Memory) = Unit {0}
GivesOrLacks s (Err (At line kind)) = ⊥

-- ---- what the steps of reading give

-- where a set refuses the entry of a line
abbrev pub told_of : ℕ → AddFault → FaultsFault
told_of number add.Memory = Memory
told_of number why = At number (kind_of why)

-- where a line can't be read
abbrev pub line_told : LineFault → FaultsFault
line_told line.Memory = Memory
line_told (line.BadByte number) = At number Byte

-- the first fault of the lines; of a lack of memory nothing is said
abbrev pub IsFirst : Shape → List LogicalLine → FaultsFault → Type 0
IsFirst m lines Memory = Unit {0}
IsFirst m lines (At number kind) = IsFirstFault m lines number kind

-- the fault that the line gives is added, or the line's fault is told
abbrev pub Takes : Faulty → LogicalLine → Result (Unit {0}) FaultsFault → Faulty → Type 0
Takes old l (Ok u) new = (x : Fault) × (fault_words old.shape x ≡ l.words) × CanHave old.shape x × (refusal_of old.shape old.faults x ≡ None)
    × (new ≡ record { shape = old.shape; faults = with_fault old.faults x })
Takes old l (Err Memory) new = Unit {0}
Takes old l (Err (At number kind)) new = (number ≡ l.number) × IsLineFault old.shape old.faults l kind
