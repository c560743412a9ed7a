-- What a vector file says: its physical lines, the vectors on them, and the first fault.
use Rattle.std.specs.Prelude.{ℕ, ◌+◌, Bool, true, false, not, ◌&&◌, ◌||◌, ◌==◌, nat_lt, nat_le, max, if◌then◌else◌, List, [], ◌∷◌, ◌++◌}
use Rattle.std.specs.Prelude.{length, map, filter, take_while, Option, None, Some}
use Rattle.std.specs.List.{before_first}
use Rattle.design_vectors.specs.declared.vectors.VectorKind.{VectorKind, TheVariants.Char, TheVariants.Width, TheVariants.Limit}

-- space, tab and carriage return
abbrev pub is_row_blank : ℕ → Bool
is_row_blank b = (b == 32) || (b == 9) || (b == 13)

-- the byte `#`, which begins a comment
abbrev pub is_comment_mark : ℕ → Bool
is_comment_mark b = b == 35

-- the byte LF, which ends a physical line
abbrev pub is_line_feed : ℕ → Bool
is_line_feed b = b == 10

-- a byte that may stand in a vector: `0` and `1`, and with no inputs `.`
abbrev pub is_vector_byte : ℕ → ℕ → Bool
is_vector_byte width b = if width == 0 then b == 46 else (b == 48) || (b == 49)

-- how many bytes a vector has: one for each input, and with no inputs one
abbrev pub vector_size : ℕ → ℕ
vector_size width = max 1 width

-- a physical line of a file
pub record PhysicalLine : Type 0 where
  -- its number in the file
  pub number : ℕ
  -- its bytes, without its LF
  pub bytes : List ℕ
  -- the place of the byte that follows it and its LF
  pub next_at : ℕ
  -- whether a byte follows on it that the limit doesn't allow
  pub is_cut : Bool

-- a line with more bytes before its own
abbrev pub put_before : List ℕ → List PhysicalLine → List PhysicalLine
put_before front [] = []
put_before front (l ∷ ls) = record l { bytes = front ++ l.bytes } ∷ ls

-- the physical lines of a text whose first line has this number and whose first byte has this place.
-- Only bytes at places below the limit are looked at
unfoldable pub numbered_lines : ℕ → ℕ → ℕ → List ℕ → List PhysicalLine
numbered_lines limit number at [] = record { number = number; bytes = []; next_at = at; is_cut = false } ∷ []
numbered_lines limit number at (b ∷ bs) =
    if nat_le limit at then record { number = number; bytes = []; next_at = at; is_cut = true } ∷ []
    else if is_line_feed b then record { number = number; bytes = []; next_at = at + 1; is_cut = false } ∷ numbered_lines limit
    (number + 1) (at + 1) bs
    else put_before (b ∷ []) (numbered_lines limit number (at + 1) bs)

-- what is left of a line: no comment and no blanks
unfoldable pub shown : List ℕ → List ℕ
shown bytes = filter (λ b. not (is_row_blank b)) (before_first is_comment_mark bytes)

-- the first byte that may not stand in a vector, or that is one too many
unfoldable pub byte_fault : ℕ → List ℕ → Option VectorKind
byte_fault width bytes =
    if nat_lt (vector_size width) (length (take_while (is_vector_byte width) bytes)) then Some Width
    else if nat_lt (length (take_while (is_vector_byte width) bytes)) (length bytes) then Some Char
    else None

-- what is wrong at the end of a line without such a byte: the limit, or too few bytes
unfoldable pub end_fault : ℕ → Bool → List ℕ → Option VectorKind
end_fault width is_cut bytes =
    if is_cut then Some Limit
    else if nat_lt 0 (length bytes) && nat_lt (length bytes) (vector_size width) then Some Width
    else None

abbrev pub fault_or : Option VectorKind → Option VectorKind → Option VectorKind
fault_or None later = later
fault_or (Some kind) later = Some kind

-- the fault of a line, of which its bytes come first
abbrev pub line_fault : ℕ → Bool → List ℕ → Option VectorKind
line_fault width is_cut bytes = fault_or (byte_fault width bytes) (end_fault width is_cut bytes)

-- the bits that the bytes of a vector spell
abbrev pub bits_of : ℕ → List ℕ → List Bool
bits_of width bytes = if width == 0 then [] else map (λ b. b == 49) bytes

-- a vector, and the place of the byte that follows its line
pub record VectorLine : Type 0 where
  pub bits : List Bool
  pub next_at : ℕ

-- the first fault of a file, the number of its line, and the place of the byte that follows that line
pub record VectorFault : Type 0 where
  pub line : ℕ
  pub kind : VectorKind
  pub next_at : ℕ

-- what a file says: the vectors before its first fault, and that fault
pub record SaidVectors : Type 0 where
  pub vectors : List VectorLine
  pub fault : Option VectorFault

abbrev pub nothing_said : SaidVectors
nothing_said = record { vectors = []; fault = None }

abbrev pub fault_said : ℕ → VectorKind → (next_at : ℕ) → SaidVectors
fault_said line kind next_at = record { vectors = []; fault = Some (record { line = line; kind = kind; next_at = next_at }) }

abbrev pub with_vector : List Bool → ℕ → SaidVectors → SaidVectors
with_vector bits next_at said = record { vectors = record { bits = bits; next_at = next_at } ∷ said.vectors; fault = said.fault }

-- what a line says before the lines after it: a fault ends the file, and a line with nothing left says nothing
abbrev pub line_says : ℕ → ℕ → ℕ → Option VectorKind → List ℕ → SaidVectors → SaidVectors
line_says width number next_at (Some kind) bytes later = fault_said number kind next_at
line_says width number next_at None [] later = later
line_says width number next_at None (b ∷ bs) later = with_vector (bits_of width (b ∷ bs)) next_at later

-- what the lines say
unfoldable pub lines_say : ℕ → List PhysicalLine → SaidVectors
lines_say width [] = nothing_said
lines_say width (l ∷ ls) =
    line_says width l.number l.next_at (line_fault width l.is_cut (shown l.bytes)) (shown l.bytes) (lines_say width ls)

-- what a whole file says to a design with so many inputs, where the reader allows so many bytes
abbrev pub file_says : ℕ → ℕ → List ℕ → SaidVectors
file_says width limit bytes = lines_say width (numbered_lines limit 1 0 bytes)
