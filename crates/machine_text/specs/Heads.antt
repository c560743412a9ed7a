-- The nine lines: what each gives, its first word, its place, and how many words follow.
use Rattle.std.specs.Prelude.{ℕ, codes, List, [], ◌∷◌, Option, find}
use Rattle.std.specs.Str.{bytes_eq}
use Rattle.machine_text.specs.declared.head.Head.{Head}
use Rattle.machine_text.specs.declared.head.Head.TheVariants as head

-- the lines in order
abbrev pub heads : List Head
heads = head.Teramac ∷ head.Modules ∷ head.Chips ∷ head.Hextants ∷ head.Tables ∷ head.Ports ∷ head.Lines ∷ head.Pins ∷ head.End ∷ []

abbrev pub word_of : Head → List ℕ
word_of head.Teramac = codes "teramac"
word_of head.Modules = codes "modules"
word_of head.Chips = codes "chips"
word_of head.Hextants = codes "hextants"
word_of head.Tables = codes "tables"
word_of head.Ports = codes "ports"
word_of head.Lines = codes "lines"
word_of head.Pins = codes "pins"
word_of head.End = codes "end"

-- how many lines stand before it
abbrev pub place_of : Head → ℕ
place_of head.Teramac = 0
place_of head.Modules = 1
place_of head.Chips = 2
place_of head.Hextants = 3
place_of head.Tables = 4
place_of head.Ports = 5
place_of head.Lines = 6
place_of head.Pins = 7
place_of head.End = 8

-- how many words follow the first
abbrev pub follow_of : Head → ℕ
follow_of head.Ports = 3
follow_of head.Lines = 4
follow_of head.End = 0
follow_of _ = 1

-- what a line gives that begins with this word, if it is one of the nine
unfoldable pub head_of : List ℕ → Option Head
head_of w = find (λ h. bytes_eq w (word_of h)) heads
