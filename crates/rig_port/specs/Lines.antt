-- How bits, counts and checks are spelled in the lines between the tool and a machine behind a port.
use Rattle.std.specs.Prelude.{◌≡◌, ◌<◌, ◌^◌, All, ℕ, zero, suc, ◌+◌, ◌*◌, Bool}
use Rattle.std.specs.Prelude.{true, false, List, [], ◌∷◌, ◌++◌, length, get_or, decimal, codes, slice_index_or}
use Rattle.std.specs.{Int.div_ceil, List.join_by}
use Rattle.hex.specs.Hex.{encode_lower}
use Rattle.machine_shape.specs.declared.Counts.{Counts}
use Rattle.machine_meaning.specs.Circuit.{Pins}
use Rattle.rig_port.specs.{declared.check.Check.Check, Checks.after, Checks.check_bytes}

-- a body with the check behind it, as it stands then
abbrev pub line_of : Check → List ℕ → List ℕ
line_of c body = body ++ 42 ∷ [] ++ encode_lower (check_bytes (after c body)) ++ 10 ∷ []

-- a pin as a number; beyond the pins it is 0
abbrev pub pin_bit : Bool → ℕ
pin_bit true = 1
pin_bit false = 0

abbrev pub bit_of : Pins → ℕ → ℕ
bit_of pins k = pin_bit (get_or pins k false)

-- eight pins as a byte: its bit j is pin k + j
abbrev pub octet_at : Pins → ℕ → ℕ
octet_at pins k = bit_of pins k + 2 * bit_of pins (k + 1) + 4 * bit_of pins (k + 2) + 8 * bit_of pins (k + 3)
    + 16 * bit_of pins (k + 4) + 32 * bit_of pins (k + 5) + 64 * bit_of pins (k + 6) + 128 * bit_of pins (k + 7)

-- the bytes of the first so many times eight pins, the highest first
abbrev pub octets_below : Pins → ℕ → List ℕ
octets_below pins zero = []
octets_below pins (suc n) = octet_at pins (8 * n) ∷ octets_below pins n

-- two hex digits for each eight pins begun: the number of which bit k is pin k
abbrev pub pin_text : Pins → List ℕ
pin_text pins = encode_lower (octets_below pins (div_ceil (length pins) 8))

-- how many bytes a cycle's word takes at most, with a letter in front and a space
abbrev pub word_room : Pins → ℕ
word_room pins = 2 * div_ceil (length pins) 8 + 2

-- for how many bytes a line is to have room, behind the words of edits: a load's `l`, the drives of a request, and the check; or a reply
abbrev pub turn_room : ℕ → ℕ
turn_room pins = 8208 + pins

-- what stands between words: a space in front of all but the first
abbrev pub gap : ℕ → List ℕ
gap zero = []
gap (suc k) = 32 ∷ []

-- the body of what a machine reads: a text for each drive, in their order
abbrev pub reading_body : List Pins → List ℕ
reading_body readings = 61 ∷ join_by pin_text (32 ∷ []) readings

abbrev pub reading_line : Check → List Pins → List ℕ
reading_line c readings = line_of c (reading_body readings)

-- the twelve counts of a machine, in the order of its text
abbrev pub numbers_of : Counts → List ℕ
numbers_of c = c.modules ∷ c.chips ∷ c.hextants ∷ c.tables
    ∷ slice_index_or c.ports 0 0 ∷ slice_index_or c.ports 1 0 ∷ slice_index_or c.ports 2 0
    ∷ slice_index_or c.lines 0 0 ∷ slice_index_or c.lines 1 0 ∷ slice_index_or c.lines 2 0 ∷ slice_index_or c.lines 3 0 ∷ c.pins ∷ []

-- twelve counts that a machine may have
pub record AreCounts (c : Counts) : Type 0 where
  pub ports : length c.ports ≡ 3
  pub lines : length c.lines ≡ 4
  pub small : All (λ n. n < 2 ^ 16) (numbers_of c)

-- what a machine says of itself: the version, the number that it was asked under, and its counts
abbrev pub counts_body : ℕ → Counts → List ℕ
counts_body n c = codes "=2 " ++ decimal n ++ 32 ∷ [] ++ join_by decimal (32 ∷ []) (numbers_of c)

abbrev pub counts_line : Check → ℕ → Counts → List ℕ
counts_line c n counts = line_of c (counts_body n counts)
