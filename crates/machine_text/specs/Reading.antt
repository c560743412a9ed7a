-- The reader line by line: the state after the lines above, and what it makes of the next. What a text and its first
-- fault are stands in Machine and Faults.
use Rattle.std.specs.Prelude.{ℕ, ◌+◌, ◌==◌, Bool, not, ◌&&◌, ◌||◌, nat_lt, nat_le, if◌then◌else◌, List, [], ◌∷◌, Option, Some, None, Result, Ok}
use Rattle.std.specs.{Prelude.Err, Prelude.length, Prelude.map, Prelude.drop, Prelude.slice_index, Prelude.slice_index_or, List.list_all}
use Rattle.std.specs.{Str.bytes_eq, Fmt.decimal}
use Rattle.machine_shape.specs.{declared.Counts.Counts, Limits.amount_of, Limits.is_small}
use Rattle.machine_shape.specs.declared.LimitedCount.TheVariants.{Tables, Wires, Crosspoints, Pins}
use Rattle.base_text.specs.Vocabulary.{LogicalLine, is_bad_line, read_on}
use Rattle.machine_text.specs.declared.{head.Head.Head, said.Said.Said}
use Rattle.machine_text.specs.declared.head.Head.TheVariants as head
use Rattle.machine_text.specs.{declared.kind.MachineKind.MachineKind, Heads.head_of, Heads.place_of, Heads.follow_of}
use Rattle.machine_text.specs.declared.kind.MachineKind.TheVariants as kind

-- what the lines above say: how many they are, the form, and the counts that they give
pub record State : Type 0 where
  pub read : ℕ
  pub said : Said

abbrev pub start : State
start = record {
  read = 0;
  said = record {
    form = 0;
    counts = record {
      modules = 0;
      chips = 0;
      hextants = 0;
      tables = 0;
      ports = 0 ∷ 0 ∷ 0 ∷ [];
      lines = 0 ∷ 0 ∷ 0 ∷ 0 ∷ [];
      pins = 0;
    };
  };
}

-- ---- the fault of a line

abbrev pub value_of : List ℕ → ℕ
value_of w = read_on 0 w

-- a numeral from 1 to 65,535
abbrev pub is_count : List ℕ → Bool
is_count w = bytes_eq w (decimal (value_of w)) && (nat_lt 0 (value_of w) && nat_lt (value_of w) 65536)

-- the number of a form
abbrev pub is_form : List ℕ → Bool
is_form w = is_count w && nat_lt (value_of w) 3

-- no count is 0, as is known where the last line stands
abbrev pub is_full : Counts → Bool
is_full c = list_all (nat_lt 0) (c.modules ∷ c.chips ∷ c.hextants ∷ c.tables ∷ c.pins ∷ [])
    && (list_all (nat_lt 0) c.ports && list_all (nat_lt 0) c.lines)

-- tables, wires, crosspoints and pins are within the limits of shapes that aren't small
abbrev pub keeps_large : Counts → Bool
keeps_large c =
    nat_le (amount_of c Tables) 65536
    && (nat_le (amount_of c Wires) 1310720 && (nat_le (amount_of c Crosspoints) 268435456 && nat_le (amount_of c Pins) 8192))

-- what there is many of is within the limits of the form
abbrev pub is_within : Said → Bool
is_within s = is_small s.counts || (not (s.form == 1) && keeps_large s.counts)

unfoldable pub is_shape : Said → Bool
is_shape s = is_full s.counts && is_within s

-- of words that are to be counts
abbrev pub counts_fault : List (List ℕ) → Option MachineKind
counts_fault ws = if list_all is_count ws then None else Some kind.Number

-- of a word that is to be the number of a form
abbrev pub form_fault : List ℕ → Option MachineKind
form_fault w = if is_form w then None else Some kind.Word

-- of the words behind the first
abbrev pub words_fault : Said → Head → List (List ℕ) → Option MachineKind
words_fault c head.Teramac ws = form_fault (slice_index_or ws 0 [])
words_fault c head.End ws = if is_shape c then None else Some kind.Limit
words_fault c _ ws = counts_fault ws

abbrev pub head_fault : State → Option Head → List (List ℕ) → Option MachineKind
head_fault s None ws = Some kind.Word
head_fault s (Some h) ws =
    if not (place_of h == s.read) then Some kind.Order
    else if not (length ws == follow_of h) then Some kind.Word
    else words_fault s.said h ws

abbrev pub said_fault : State → List (List ℕ) → Option MachineKind
said_fault s words = if nat_lt 8 s.read then Some kind.After else head_fault s (head_of (slice_index_or words 0 [])) (drop 1 words)

-- the fault of a line that comes first in their order
abbrev pub fault_of : State → LogicalLine → Option MachineKind
fault_of s l = if is_bad_line l then Some kind.Byte else said_fault s l.words

-- ---- what a line gives

abbrev pub with_numbers : Said → Head → List ℕ → Said
with_numbers s head.Teramac ns = record s { form = slice_index ns 0 }
with_numbers s head.Modules ns = record s { counts = record s.counts { modules = slice_index ns 0 } }
with_numbers s head.Chips ns = record s { counts = record s.counts { chips = slice_index ns 0 } }
with_numbers s head.Hextants ns = record s { counts = record s.counts { hextants = slice_index ns 0 } }
with_numbers s head.Tables ns = record s { counts = record s.counts { tables = slice_index ns 0 } }
with_numbers s head.Ports ns = record s { counts = record s.counts { ports = ns } }
with_numbers s head.Lines ns = record s { counts = record s.counts { lines = ns } }
with_numbers s head.Pins ns = record s { counts = record s.counts { pins = slice_index ns 0 } }
with_numbers s head.End ns = s

abbrev pub with_line : Said → Option Head → List (List ℕ) → Said
with_line s None ws = s
with_line s (Some h) ws = with_numbers s h (map value_of ws)

abbrev pub after : State → List (List ℕ) → State
after s words = record { read = s.read + 1; said = with_line s.said (head_of (slice_index_or words 0 [])) (drop 1 words) }

-- ---- the lines one after another

-- a line with a fault ends the reading
abbrev pub if_sound : ℕ → Option MachineKind → Result Said (ℕ × MachineKind) → Result Said (ℕ × MachineKind)
if_sound n None rest = rest
if_sound n (Some k) rest = Err (n, k)

-- what the lines say, or the first fault and its line
unfoldable pub reading : State → List LogicalLine → Result Said (ℕ × MachineKind)
reading s [] = if nat_lt s.read 9 then Err (0, kind.Missing) else Ok s.said
reading s (l ∷ lines) = if_sound l.number (fault_of s l) (reading (after s l.words) lines)
