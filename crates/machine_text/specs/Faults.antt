-- Which fault a text has, and where.
use Rattle.std.specs.Prelude.{ℕ, ◌≡◌, ◌≢◌, ◌<◌, ◌≤◌, ◌⊎◌, true, false, List, [], ◌∷◌, ◌++◌, Result, Ok, Err, length, map, take, All}
use Rattle.std.specs.{Fmt.decimal, List.AllByRecursion}
use Rattle.machine_shape.specs.declared.{Counts.Counts, Shape.Shape}
use Rattle.machine_shape.specs.{declared.LimitedCount.LimitedCount, Limits.amount_of, Limits.is_small, Limits.most_of_large}
use Rattle.base_text.specs.Vocabulary.{LogicalLine, logical_lines, is_bad_line, most_bytes}
use Rattle.machine_text.specs.{declared.head.Head.Head, Machine.IsForm, Machine.KeepsLimits, Machine.numbers_of, Machine.count_row}
use Rattle.machine_text.specs.declared.head.Head.TheVariants as head
use Rattle.machine_text.specs.declared.kind.{MachineKind.MachineKind, MachineFault.TheVariants.At, MachineFault.TheVariants.Memory}
use Rattle.machine_text.specs.declared.kind.MachineKind.TheVariants.{Byte, Word, Order, Number, Missing, Limit, After}
use Rattle.machine_text.specs.{declared.kind.MachineFault.MachineFault, Heads.heads, Heads.word_of, Heads.place_of, Heads.follow_of}
use Rattle.machine_text.specs.declared.said.Said.{Said}

abbrev pub AreCounts : List ℕ → Type 0
AreCounts ns = All (λ n. (0 < n) × (n ≤ 65535)) ns

-- a line of this kind has as many counts as it is to have
abbrev pub HasCounts : Said → Head → Type 0
HasCounts c h = (length (numbers_of c h) ≡ follow_of h) × AreCounts (numbers_of c h)

-- These are the first lines of a text that says this: each is right. Where the last is among them, the counts make a shape,
-- in the first form a small one.
pub record AreFirstLines (c : Said) (lines : List LogicalLine) : Type 0 where
  pub rows : map (λ l. l.words) lines ≡ map (count_row c) (take (length lines) heads)
  pub counts : AllByRecursion (HasCounts c) (take (length lines) heads)
  pub form : 0 < length lines → IsForm c.form
  pub shape : 8 < length lines → KeepsLimits c

-- it has too many tables, wires or crosspoints for a small shape, and in the second form too many of something for the others
abbrev pub PassesLimit : Said → Type 0
PassesLimit c = (is_small c.counts ≡ false) × ((c.form ≡ 1) ⊎ ((which : LimitedCount) × (most_of_large which < amount_of c.counts which)))

-- what is wrong with the words behind the first word of a line of this kind
pub data IsRestFault (c : Said) : Head → List (List ℕ) → MachineKind → Type 0 where
  size : {h : Head} {rest : List (List ℕ)} → length rest ≢ follow_of h → IsRestFault c h rest Word
  format : {rest : List (List ℕ)} → length rest ≡ 1 → ((n : ℕ) → IsForm n → rest ≢ decimal n ∷ []) → IsRestFault c head.Teramac rest Word
  number : {h : Head} {rest : List (List ℕ)} → length rest ≡ follow_of h → h ≢ head.Teramac →
      ((ns : List ℕ) → AreCounts ns → rest ≢ map decimal ns) → IsRestFault c h rest Number
  limit : {rest : List (List ℕ)} → rest ≡ [] → PassesLimit c → IsRestFault c head.End rest Limit

-- what is wrong with the words of a line, n right lines above which say this
pub data IsWordsFault (c : Said) (n : ℕ) (words : List (List ℕ)) : MachineKind → Type 0 where
  over : n ≡ 9 → IsWordsFault c n words After
  unknown : n < 9 → ((h : Head) (rest : List (List ℕ)) → words ≢ word_of h ∷ rest) → IsWordsFault c n words Word
  not_due : n < 9 → (h : Head) (rest : List (List ℕ)) → words ≡ word_of h ∷ rest → place_of h ≢ n →
      IsWordsFault c n words Order
  due : {kind : MachineKind} → (h : Head) (rest : List (List ℕ)) → words ≡ word_of h ∷ rest → place_of h ≡ n →
      IsRestFault c h rest kind → IsWordsFault c n words kind

-- a bad byte comes before what is wrong with the words
pub data IsLineFault (c : Said) (n : ℕ) (line : LogicalLine) : MachineKind → Type 0 where
  bad : is_bad_line line ≡ true → IsLineFault c n line Byte
  words : {kind : MachineKind} → is_bad_line line ≡ false → IsWordsFault c n line.words kind → IsLineFault c n line kind

-- The first line that is wrong: those above it are right. A text of right lines alone that ends before the ninth is
-- wrong as a whole, at line 0.
pub data IsFirstFault (lines : List LogicalLine) : ℕ → MachineKind → Type 0 where
  at_line : {kind : MachineKind} (c : Said) (above : List LogicalLine) (line : LogicalLine) (below : List LogicalLine) →
      above ++ line ∷ below ≡ lines → AreFirstLines c above → IsLineFault c (length above) line kind → IsFirstFault lines line.number kind
  at_end : (c : Said) → AreFirstLines c lines → length lines < 9 → IsFirstFault lines 0 Missing

-- too many bytes are a fault of the whole text; else it is the first fault of the lines
abbrev pub IsFault : List ℕ → ℕ → MachineKind → Type 0
IsFault bytes line kind =
    ((most_bytes < length bytes) × ((line ≡ 0) × (kind ≡ Limit)))
    ⊎ ((length bytes ≤ most_bytes) × IsFirstFault (logical_lines false bytes) line kind)

-- a text is refused for its fault; of a lack of memory nothing is said
abbrev pub IsRefusedAs : List ℕ → MachineFault → Type 0
IsRefusedAs bytes Memory = Unit {0}
IsRefusedAs bytes (At line kind) = IsFault bytes line kind

-- a call gives the shape of these counts, or memory was lacking
abbrev pub GivesOrLacks : Counts → Result Shape MachineFault → Type 0
GivesOrLacks c (Ok s) = s.counts ≡ c
GivesOrLacks c (Err Memory) = Unit {0}
GivesOrLacks c (Err (At line kind)) = ⊥
