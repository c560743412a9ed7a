-- The first fault of the bytes of an image. The fields stand in order; each is faulty, or it is right and
-- what is behind it is looked at.
use Rattle.std.specs.Prelude.{◌≡◌, ℕ, zero, suc, ◌+◌, ◌^◌, ◌<◌, ◌==◌, ◌&&◌, nat_lt, nat_le, if◌then◌else◌, List, [], ◌∷◌, ◌++◌, length}
use Rattle.std.specs.{Prelude.drop, Prelude.codes, Prelude.Option, Prelude.Some, Prelude.None, List.list_any}
use Rattle.byteorder.specs.Endian.{big_bytes, big_number}
use Rattle.machine_shape.specs.declared.Shape.{Shape}
use Rattle.machine_shape.specs.Vocabulary.{pins_of, tables_of, crosses_of, most_ticks, most_closed}
use Rattle.machine_image.specs.declared.kind.ImageKind.{ImageKind}
use Rattle.machine_image.specs.declared.kind.ImageKind.TheVariants as kind

-- a number stands at a place, in so many bytes, the highest first
abbrev pub Stands : (size n : ℕ) → List ℕ → ℕ → Type 0
Stands size n bytes at = (n < 256 ^ size) × (drop at bytes ≡ big_bytes size n ++ drop (at + size) bytes)

-- The first fault is that of the field at a place, or the field is right and the fault is behind it. A field
-- that isn't there whole is cut off, at the number of bytes.
pub data InField (bytes : List ℕ) (line : ℕ) (fault : ImageKind) (at size : ℕ) (fault_of : ℕ → Option ImageKind)
    (Behind : ℕ → Type 0) : Type 0 where
  cut : length bytes < at + size → line ≡ length bytes → fault ≡ kind.Short → InField bytes line fault at size fault_of Behind
  wrong : (n : ℕ) → Stands size n bytes at → fault_of n ≡ Some fault → line ≡ at → InField bytes line fault at size fault_of Behind
  behind : (n : ℕ) → Stands size n bytes at → fault_of n ≡ None → Behind n → InField bytes line fault at size fault_of Behind

-- ---- what is wrong with the number in a field

abbrev pub no_fault : ℕ → Option ImageKind
no_fault n = None

-- the eight bytes TERAIMG1, as one number
abbrev pub magic : ℕ
magic = big_number 8 (codes "TERAIMG1")

abbrev pub magic_fault : ℕ → Option ImageKind
magic_fault n = if n == magic then None else Some kind.Magic

-- a count is the machine's
abbrev pub count_fault : ℕ → ℕ → Option ImageKind
count_fault count n = if n == count then None else Some kind.Shape

-- ticks are 1 to this many
abbrev pub ticks_fault : ℕ → ℕ → Option ImageKind
ticks_fault most n = if nat_lt 0 n && nat_le n most then None else Some kind.Range

-- a number is at most this one
abbrev pub most_fault : ℕ → ℕ → Option ImageKind
most_fault most n = if nat_le n most then None else Some kind.Range

-- no more crosspoints are closed than the machine has, and than an image may close
abbrev pub closed_fault : (most crosses : ℕ) → ℕ → Option ImageKind
closed_fault most crosses n = if nat_le n crosses && nat_le n most then None else Some kind.Range

-- a pin is one of so many, and none of those before it
abbrev pub pin_fault : ℕ → List ℕ → ℕ → Option ImageKind
pin_fault pins before n = if nat_lt n pins then (if list_any (λ p. p == n) before then Some kind.Order else None) else Some kind.Range

-- a table or crosspoint is one of so many, and not below the least that may come
abbrev pub above_fault : ℕ → ℕ → ℕ → Option ImageKind
above_fault count least n = if nat_lt n count then (if nat_lt n least then Some kind.Order else None) else Some kind.Range

abbrev pub flags_fault : ℕ → Option ImageKind
flags_fault n = most_fault 3 n

-- ---- the fields, from the last to the first

-- nothing follows
abbrev pub InEnd : List ℕ → ℕ → ImageKind → ℕ → Type 0
InEnd bytes line fault at = (at < length bytes) × (line ≡ at) × (fault ≡ kind.After)

-- so many crosspoints, ascending
abbrev pub InCrosses : Shape → List ℕ → ℕ → ImageKind → (at left least : ℕ) → Type 0
InCrosses m bytes line fault at zero least = InEnd bytes line fault at
InCrosses m bytes line fault at (suc left) least =
    InField bytes line fault at 4 (above_fault (crosses_of m) least) (λ x. InCrosses m bytes line fault (at + 4) left (suc x))

-- so many switched-on tables, ascending, each with its number, its flags and its cells; and the number of crosspoints
abbrev pub InTables : Shape → List ℕ → ℕ → ImageKind → (at left least : ℕ) → Type 0
InTables m bytes line fault at zero least =
    InField bytes line fault at 4 (closed_fault (most_closed m) (crosses_of m)) (λ n. InCrosses m bytes line fault (at + 4) n 0)
InTables m bytes line fault at (suc left) least =
    InField bytes line fault at 2 (above_fault (tables_of m) least) (λ t.
    InField bytes line fault (at + 2) 1 flags_fault (λ _.
    InField bytes line fault (at + 3) 8 no_fault (λ _.
    InTables m bytes line fault (at + 11) left (suc t))))

-- so many pins, where these stand before; and the number of tables
abbrev pub InPins : Shape → List ℕ → ℕ → ImageKind → (at left : ℕ) → List ℕ → Type 0
InPins m bytes line fault at zero before =
    InField bytes line fault at 2 (most_fault (tables_of m)) (λ n. InTables m bytes line fault (at + 2) n 0)
InPins m bytes line fault at (suc left) before =
    InField bytes line fault at 2 (pin_fault (pins_of m) before) (λ k. InPins m bytes line fault (at + 2) left (before ++ k ∷ []))

-- ticks, and the numbers of inputs and of outputs
abbrev pub InTicks : Shape → List ℕ → ℕ → ImageKind → ℕ → Type 0
InTicks m bytes line fault at =
    InField bytes line fault at 2 (ticks_fault (most_ticks m)) (λ _.
    InField bytes line fault (at + 2) 2 no_fault (λ inputs.
    InField bytes line fault (at + 4) 2 no_fault (λ outputs.
    InPins m bytes line fault (at + 6) (inputs + outputs) [])))

-- these counts of the machine
abbrev pub InCounts : Shape → List ℕ → ℕ → ImageKind → ℕ → List ℕ → Type 0
InCounts m bytes line fault at [] = InTicks m bytes line fault at
InCounts m bytes line fault at (c ∷ cs) =
    InField bytes line fault at 2 (count_fault c) (λ _. InCounts m bytes line fault (at + 2) cs)

-- the machine's counts, in the order in which they are written
abbrev pub counts_of : Shape → List ℕ
counts_of m = m.counts.modules ∷ m.counts.chips ∷ m.counts.hextants ∷ m.counts.tables ∷
    (m.counts.ports ++ (m.counts.lines ++ (m.counts.pins ∷ [])))

-- the whole
abbrev pub InImage : Shape → List ℕ → ℕ → ImageKind → Type 0
InImage m bytes line fault =
    InField bytes line fault 0 8 magic_fault (λ _. InCounts m bytes line fault 8 (counts_of m))
