-- The text of a machine.
use Rattle.std.specs.Prelude.{ℕ, ◌≡◌, ◌⊎◌, ◌<◌, ◌≤◌, true, false, if◌then◌else◌, List, [], ◌∷◌, length, map, All}
use Rattle.std.specs.Fmt.{decimal}
use Rattle.machine_shape.specs.{declared.Counts.Counts, Limits.MakeShape, Limits.is_small}
use Rattle.base_text.specs.Vocabulary.{logical_lines, written}
use Rattle.machine_text.specs.{declared.head.Head.Head, declared.said.Said.Said, Heads.heads, Heads.word_of}
use Rattle.machine_text.specs.declared.head.Head.TheVariants as head

-- the forms of a text
abbrev pub IsForm : ℕ → Type 0
IsForm n = (n ≡ 1) ⊎ (n ≡ 2)

-- what a text says: its form, and the counts
abbrev pub said_in : ℕ → Counts → Said
said_in form c = record { form = form; counts = c }

-- the numbers of a line; the first line has that of the form
abbrev pub numbers_of : Said → Head → List ℕ
numbers_of s head.Teramac = s.form ∷ []
numbers_of s head.Modules = s.counts.modules ∷ []
numbers_of s head.Chips = s.counts.chips ∷ []
numbers_of s head.Hextants = s.counts.hextants ∷ []
numbers_of s head.Tables = s.counts.tables ∷ []
numbers_of s head.Ports = s.counts.ports
numbers_of s head.Lines = s.counts.lines
numbers_of s head.Pins = s.counts.pins ∷ []
numbers_of s head.End = []

-- the words of the nine lines
abbrev pub count_row : Said → Head → List (List ℕ)
count_row s h = word_of h ∷ map decimal (numbers_of s h)

abbrev pub count_rows : Said → List (List (List ℕ))
count_rows s = map (count_row s) heads

-- the counts make a shape, in the first form a small one
pub record KeepsLimits (s : Said) : Type 0 where
  pub shape : MakeShape s.counts
  pub small : s.form ≡ 1 → is_small s.counts ≡ true

-- a text is that of the machine of these counts
pub record IsMachine (bytes : List ℕ) (c : Counts) : Type 0 where
  pub form : ℕ
  pub known : IsForm form
  pub rows : map (λ l. l.words) (logical_lines false bytes) ≡ count_rows (said_in form c)
  pub three : length c.ports ≡ 3
  pub four : length c.lines ≡ 4
  pub small : (h : Head) → All (λ n. (0 < n) × (n ≤ 65535)) (numbers_of (said_in form c) h)
  pub limits : KeepsLimits (said_in form c)

-- the one text that is written: the second form for shapes that aren't small, single spaces, and a line feed behind each line
abbrev pub form_of : Counts → ℕ
form_of c = if is_small c then 1 else 2

unfoldable pub text_of : Counts → List ℕ
text_of c = written (count_rows (said_in (form_of c) c))
