-- The fault of a line, by what stands above it, and the first fault of a text.
use Rattle.design_netlist.specs.declared.{netlist_data.Cover.Cover, fault.DesignKind.DesignKind}
use Rattle.std.specs.Prelude.{ℕ, ◌==◌, Bool, true, false, not, ◌&&◌, ◌||◌, nat_lt, nat_le, codes, if◌then◌else◌, List, [], ◌∷◌, ◌++◌}
use Rattle.std.specs.Prelude.{Option, Some, None, Result, Ok, Err, length, map, drop}
use Rattle.std.specs.{List.list_any, List.list_all, Option.option_or, Str.bytes_eq}
use Rattle.base_text.specs.Lines.{LogicalLine, is_bad_line}
use Rattle.design_netlist.specs.declared.fault.DesignKind.TheVariants as kind
use Rattle.design_blif.specs.{declared.head.Head.Head, Heads.head_of, Names.limit_at}
use Rattle.design_blif.specs.declared.head.Head.TheVariants as head
use Rattle.design_blif.specs.{Seen.Seen, Seen.Above, Grammar.above_by, Grammar.models_of, Grammar.is_some_model, Grammar.spelled_model}
use Rattle.design_blif.specs.Parts.{nth_word, is_pair, actual_of, row_words, is_right_row, is_off, is_init, has_type, has_init, init_word}
use Rattle.design_blif.specs.Parts.{control_of}
use Rattle.design_flatten.specs.declared.model.Model.{Model}

-- of the words of a row for this many inputs
abbrev pub row_shape_fault : ℕ → List (List ℕ) → Option DesignKind
row_shape_fault n words =
    if not (length words == row_words n) then Some kind.Word
    else if not (is_right_row n words) then Some kind.Row
    else None

abbrev pub same_bool : Bool → Bool → Bool
same_bool true b = b
same_bool false b = not b

-- of a row under a cover
abbrev pub row_fault : Cover → List (List ℕ) → Option DesignKind
row_fault c words =
    let n = length c.ins in
    if not (length words == row_words n) then Some kind.Word
    else if not (is_right_row n words) then Some kind.Row
    else if nat_lt 0 (length c.rows) && not (same_bool c.off (is_off n words)) then Some kind.RowMixed
    else if nat_le 4096 (length c.rows) then Some kind.Limit
    else None

abbrev pub names_fault : List (List ℕ) → List (List ℕ) → Option DesignKind
names_fault names words =
    if nat_lt (length words) 2 then Some kind.Word
    else if nat_lt 258 (length words) then Some kind.Limit
    else limit_at names (drop 1 words)

abbrev pub is_other : Option (List ℕ) → Option (List ℕ) → Bool
is_other None earlier = false
is_other (Some c) None = false
is_other (Some c) (Some d) = not (bytes_eq c d)

unfoldable pub latch_parts_fault : List (List ℕ) → Option DesignKind
latch_parts_fault words =
    if nat_lt (length words) 3 || nat_lt 6 (length words) then Some kind.Word
    else if has_type words && not (bytes_eq (nth_word 3 words) (codes "re")) then Some kind.LatchType
    else if has_init words && not (is_init (init_word words)) then Some kind.LatchInit
    else None

abbrev pub latch_fault : Option (List ℕ) → List (List ℕ) → List (List ℕ) → Option DesignKind
latch_fault control names words =
    option_or (latch_parts_fault words) (if is_other (control_of words) control then Some kind.Control else limit_at names
    (nth_word 1 words ∷ nth_word 2 words ∷ []))

-- behind the model's name each word is a formal, `=` and an actual
abbrev pub pairs_fault : List (List ℕ) → Option DesignKind
pairs_fault words = if list_all is_pair words then None else Some kind.Word

abbrev pub subckt_fault : List (List ℕ) → List (List ℕ) → Option DesignKind
subckt_fault names words =
    if nat_lt (length words) 2 then Some kind.Word
    else option_or (pairs_fault (drop 2 words)) (limit_at names (map actual_of (drop 2 words)))

abbrev pub line_fault : Seen → Head → List (List ℕ) → Option DesignKind
line_fault seen head.Model words = None
line_fault seen head.Inputs words = limit_at seen.names (drop 1 words)
line_fault seen head.Outputs words = limit_at seen.names (drop 1 words)
line_fault seen head.Names words = names_fault seen.names words
line_fault seen head.Latch words = latch_fault seen.control seen.names words
line_fault seen head.End words = if length words == 1 then None else Some kind.Word
line_fault seen head.Clock words = None
line_fault seen head.Subckt words = subckt_fault seen.names words
line_fault seen head.LeftOut words = Some kind.LeftOut
line_fault seen head.Passed words = None
line_fault seen head.Unknown words = Some kind.Unknown
line_fault seen head.Row words = current_fault seen.current
  where
    current_fault : Option Cover → Option DesignKind
    current_fault None = Some kind.Word
    current_fault (Some c) = row_fault c words

-- the place of the line comes before what it says
abbrev pub placed_fault : Seen → Head → List (List ℕ) → Option DesignKind
placed_fault seen head.Passed words = None
placed_fault seen h words =
    if seen.ended then Some kind.Word
    else if not seen.begun then Some kind.NoModel
    else line_fault seen h words

abbrev pub model_fault : Above → List (List ℕ) → Option DesignKind
model_fault above words =
    if nat_lt 2 (length words) || (above.this.begun && nat_lt (length words) 2) then Some kind.Word
    else if list_any (bytes_eq (nth_word 1 words)) above.models then Some kind.SameModel
    else None

-- a `.model` line may stand after `.end`
abbrev pub head_fault : Above → Head → List (List ℕ) → Option DesignKind
head_fault above head.Model words = model_fault above words
head_fault above h words = placed_fault above.this h words

-- the fault of a line that comes first in their order
abbrev pub fault_of : Above → LogicalLine → Option DesignKind
fault_of above l = if is_bad_line l then Some kind.Byte else head_fault above (head_of (nth_word 0 l.words)) l.words

-- a kind of line that ends the rows above it
abbrev pub IsNew : Head → Type 0
IsNew head.Passed = ⊥
IsNew head.Unknown = ⊥
IsNew head.LeftOut = ⊥
IsNew head.Row = ⊥
IsNew _ = Unit {0}

-- the first line with a fault, after those above, and the fault that comes first on it
unfoldable pub first_fault : List LogicalLine → List LogicalLine → Option (ℕ × DesignKind)
first_fault above [] = None
first_fault above (l ∷ lines) = here (fault_of (above_by (models_of above)) l) (first_fault (above ++ l ∷ []) lines)
  where
    here : Option DesignKind → Option (ℕ × DesignKind) → Option (ℕ × DesignKind)
    here None later = later
    here (Some k) later = Some (l.number, k)

-- the models that a text spells; or its first fault, or else that it has no line
abbrev pub answer : List LogicalLine → Option (ℕ × DesignKind) → Result (List Model) (ℕ × DesignKind)
answer lines (Some f) = Err f
answer lines None = if is_some_model (models_of lines) then Ok (map spelled_model (models_of lines)) else Err (0, kind.NoModel)

abbrev pub reading : List LogicalLine → Result (List Model) (ℕ × DesignKind)
reading lines = answer lines (first_fault [] lines)
