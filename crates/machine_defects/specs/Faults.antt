-- Which fault a text has, and where.
use Rattle.std.specs.Prelude.{◌≡◌, ◌≢◌, ◌⊎◌, ℕ, ◌+◌, ◌<◌, ◌≤◌, ◌==◌, Bool, true, not, ◌&&◌, List, [], ◌∷◌, ◌++◌, length, codes, Result, Ok}
use Rattle.std.specs.{Prelude.Err, List.list_all, List.AllByRecursion}
use Rattle.machine_shape.specs.{declared.Shape.Shape, Vocabulary.most_text}
use Rattle.base_text.specs.Vocabulary.{written, written_line}
use Rattle.machine_defects.specs.declared.entry.Entry.{Entry}
use Rattle.machine_defects.specs.{declared.kind.DefectsKind.DefectsKind, Lists.DefectList, Lists.IsDefectList, Lists.no_defects}
use Rattle.machine_defects.specs.declared.kind.DefectsKind.TheVariants.{Word, Order, Name, WrongMachine, Doubled, After, Limit}
use Rattle.machine_defects.specs.declared.kind.DefectsFault.{DefectsFault, TheVariants.At, TheVariants.Memory}
use Rattle.machine_defects.specs.Text.{IsEntryOf, IsFreeEntry, entry_words, is_before, entries_of, counts_of, first_row, shape_row, end_row}
use Rattle.machine_defects.specs.Text.{rows_of, text_of}

-- a byte that is neither a space nor the end of a line
abbrev pub is_inner : ℕ → Bool
is_inner b = not (b == 32) && not (b == 10)

abbrev pub IsWord : List ℕ → Type 0
IsWord w = (0 < length w) × (list_all is_inner w ≡ true)

-- the words of a line that lists something, by their form alone
pub data IsEntryForm : List (List ℕ) → Type 0 where
  wire_form : {w : List ℕ} → IsWord w → IsEntryForm (codes "wire" ∷ w ∷ [])
  cross_form : {t l : List ℕ} → IsWord t → IsWord l → IsEntryForm (codes "cross" ∷ t ∷ l ∷ [])
  table_form : {t : List ℕ} → IsWord t → IsEntryForm (codes "table" ∷ t ∷ [])

-- twelve numbers of a line of the shape
pub record AreCounts (ns : List ℕ) : Type 0 where
  pub twelve : length ns ≡ 12
  pub small : AllByRecursion (λ n. n ≤ 65535) ns

-- the words of a line have a right form, and are in their place below so many lines
pub data IsForm (above : ℕ) : List (List ℕ) → Type 0 where
  first_form : above ≡ 0 → IsForm above first_row
  shape_form : {ns : List ℕ} → above ≡ 1 → AreCounts ns → IsForm above (shape_row ns)
  entry_form : {row : List (List ℕ)} → 2 ≤ above → IsEntryForm row → IsForm above row
  end_form : 2 ≤ above → IsForm above end_row

-- the entry is before the last one of the list
pub record IsBeforeLast (e : Entry) (d : DefectList) : Type 0 where
  pub above : List Entry
  pub last : Entry
  pub parts : entries_of d ≡ above ++ last ∷ []
  pub before_it : is_before e last ≡ true

-- what is wrong with the first line of the bytes that are left, where so many lines stand above, which list these defects
pub data IsLineFault (d : DefectList) (above : ℕ) (left : List ℕ) : DefectsKind → Type 0 where
  formless : ((row : List (List ℕ)) (more : List ℕ) → IsForm above row → left ≢ written_line row ++ more) → IsLineFault d above left Word
  other_machine : (ns more : List ℕ) → above ≡ 1 → AreCounts ns → left ≡ written_line (shape_row ns) ++ more →
      ns ≢ counts_of d.shape.counts → IsLineFault d above left WrongMachine
  nameless : (row : List (List ℕ)) (more : List ℕ) → 2 ≤ above → IsEntryForm row → left ≡ written_line row ++ more →
      ((e : Entry) → IsEntryOf d.shape e → entry_words d.shape e ≢ row) → IsLineFault d above left Name
  earlier : (e : Entry) (more : List ℕ) → 2 ≤ above → IsEntryOf d.shape e → left ≡ written_line (entry_words d.shape e) ++ more →
      IsBeforeLast e d → IsLineFault d above left Order
  again : (e : Entry) (more : List ℕ) → 2 ≤ above → IsEntryOf d.shape e → left ≡ written_line (entry_words d.shape e) ++ more →
      ¬ IsBeforeLast e d → ¬ IsFreeEntry d e → IsLineFault d above left Doubled

-- the lines at the beginning of a text of this machine that has no fault so far, and what they list
pub data AreAbove (m : Shape) : DefectList → List (List (List ℕ)) → Type 0 where
  nothing : AreAbove m (record { shape = m; list = no_defects }) []
  begun : AreAbove m (record { shape = m; list = no_defects }) (first_row ∷ [])
  listed : (d : DefectList) → d.shape ≡ m → IsDefectList d → AreAbove m d (rows_of d)

-- the first line that has a fault: those above it have none
pub record IsFaultAtLine (m : Shape) (bytes : List ℕ) (number : ℕ) (kind : DefectsKind) : Type 0 where
  pub list : DefectList
  pub above : List (List (List ℕ))
  pub left : List ℕ
  pub right : AreAbove m list above
  pub parts : bytes ≡ written above ++ left
  pub here : number ≡ length above + 1
  pub fault : IsLineFault list (length above) left kind

-- bytes stand behind a whole text
pub record IsFaultBehind (m : Shape) (bytes : List ℕ) (number : ℕ) (kind : DefectsKind) : Type 0 where
  pub list : DefectList
  pub left : List ℕ
  pub shape : list.shape ≡ m
  pub right : IsDefectList list
  pub parts : bytes ≡ text_of list ++ left
  pub some : 0 < length left
  pub here : number ≡ length (rows_of list) + 2
  pub kind_is : kind ≡ After

abbrev pub IsFirstFault : Shape → List ℕ → ℕ → DefectsKind → Type 0
IsFirstFault m bytes number kind = IsFaultAtLine m bytes number kind ⊎ IsFaultBehind m bytes number kind

-- too many bytes are a fault of the whole text
abbrev pub IsFaultAt : Shape → List ℕ → ℕ → DefectsKind → Type 0
IsFaultAt m bytes number kind =
    ((most_text m < length bytes) × (number ≡ 0) × (kind ≡ Limit))
    ⊎ ((length bytes ≤ most_text m) × IsFirstFault m bytes number kind)

-- a text is refused for its first fault; of a lack of memory nothing is said
abbrev pub IsRefusedAs : Shape → List ℕ → DefectsFault → Type 0
IsRefusedAs m bytes Memory = Unit {0}
IsRefusedAs m bytes (At line kind) = IsFaultAt m bytes line kind

-- the bytes are the text of the list
pub record IsText (m : Shape) (bytes : List ℕ) (d : DefectList) : Type 0 where
  pub shape : d.shape ≡ m
  pub right : IsDefectList d
  pub spelled : bytes ≡ text_of d

-- a call gives this list, or memory was lacking
abbrev pub GivesOrLacks : DefectList → Result DefectList DefectsFault → Type 0
GivesOrLacks d (Ok e) = e ≡ d
GivesOrLacks d (Err Memory) = Unit {0}
GivesOrLacks d (Err (At line kind)) = ⊥
