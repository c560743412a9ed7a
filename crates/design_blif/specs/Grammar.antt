-- What a text says, by its list of lines.
use Rattle.design_flatten.specs.declared.model.{Model.Model, Piece.Piece}
use Rattle.design_flatten.specs.declared.model.{PairDef.PairDef, Piece.TheVariants.Names, Piece.TheVariants.Latch, Piece.TheVariants.Inst}
use Rattle.design_netlist.specs.declared.netlist_data.{Cover.Cover, PortDef.PortDef, LatchDef.LatchDef}
use Rattle.std.specs.Prelude.{option_map, ℕ, ◌-◌, ◌≡◌, Bool, true, false, List, [], ◌∷◌, ◌++◌, Option, Some, None, length, map, take, drop}
use Rattle.std.specs.{Prelude.slice_index, List.flat_map, Option.option_or, Option.option_to_list}
use Rattle.base_text.specs.Lines.{LogicalLine, logical_lines}
use Rattle.design_blif.specs.{declared.head.Head.Head, Names.names_after, Names.name_number, Seen.Seen, Seen.Above, Right.IsRightLine}
use Rattle.design_blif.specs.declared.head.Head.TheVariants as head
use Rattle.design_blif.specs.Heads.{head_of}
use Rattle.design_blif.specs.Parts.{formal_of, actual_of, nth_word, lit_of, pattern, is_off, init_of, control_of}

-- ---- statements

-- a line that is no row, with the rows that follow it
pub record Statement : Type 0 where
  pub head : LogicalLine
  pub rows : List LogicalLine

-- rows at the front, and the statements after them
pub record Grouped : Type 0 where
  pub rows : List LogicalLine
  pub statements : List Statement

abbrev pub kind_of : LogicalLine → Head
kind_of l = head_of (nth_word 0 l.words)

abbrev pub grouped_behind : LogicalLine → Head → Grouped → Grouped
grouped_behind l head.Passed g = g
grouped_behind l head.Row g = record { rows = l ∷ g.rows; statements = g.statements }
grouped_behind l _ g = record { rows = []; statements = record { head = l; rows = g.rows } ∷ g.statements }

abbrev pub grouped : List LogicalLine → Grouped
grouped [] = record { rows = []; statements = [] }
grouped (l ∷ lines) = grouped_behind l (kind_of l) (grouped lines)

abbrev pub statements_of : List LogicalLine → List Statement
statements_of lines = (grouped lines).statements

-- ---- what a statement says

-- the words of a line that are signals, in order
abbrev pub signals : Head → List (List ℕ) → List (List ℕ)
signals head.Inputs words = drop 1 words
signals head.Outputs words = drop 1 words
signals head.Names words = drop 1 words
signals head.Latch words = nth_word 1 words ∷ nth_word 2 words ∷ []
signals head.Subckt words = map actual_of (drop 2 words)
signals _ words = []

abbrev pub statement_signals : Statement → List (List ℕ)
statement_signals s = signals (kind_of s.head) s.head.words

-- the signals of a text, numbered by first appearance
abbrev pub names_of : List Statement → List (List ℕ)
names_of statements = names_after [] (flat_map statement_signals statements)

abbrev pub port_of : List (List ℕ) → ℕ → List ℕ → PortDef
port_of names line w = record { signal = name_number names w; line = line }

abbrev pub inputs_on : List (List ℕ) → Head → LogicalLine → List PortDef
inputs_on names head.Inputs l = map (port_of names l.number) (drop 1 l.words)
inputs_on names _ l = []

abbrev pub outputs_on : List (List ℕ) → Head → LogicalLine → List PortDef
outputs_on names head.Outputs l = map (port_of names l.number) (drop 1 l.words)
outputs_on names _ l = []

-- names that stand without effect
abbrev pub clocks_on : Head → LogicalLine → List (List ℕ)
clocks_on head.Clock l = drop 1 l.words
clocks_on _ l = []

-- a cover lists the off-set where its first row has a 0
abbrev pub lists_off : ℕ → List LogicalLine → Bool
lists_off n [] = false
lists_off n (row ∷ rows) = is_off n row.words

-- the last signal is the output
abbrev pub cover_of : List (List ℕ) → Head → Statement → Option Cover
cover_of names head.Names s =
    let ns = map (name_number names) (drop 1 s.head.words) in
    let ins = take (length ns - 1) ns in
    Some (record {
      out = slice_index ns (length ns - 1);
      ins = ins;
      rows = map (λ row. map lit_of (pattern (length ins) row.words)) s.rows;
      off = lists_off (length ins) s.rows;
      line = s.head.number;
    })
cover_of names _ s = None

abbrev pub latch_of : List (List ℕ) → LogicalLine → LatchDef
latch_of names l =
    record { from = name_number names (nth_word 1 l.words); out = name_number names (nth_word 2 l.words); init = init_of l.words; line = l.number }

abbrev pub pair_from : List (List ℕ) → List ℕ → PairDef
pair_from names w = record { formal = formal_of w; actual = name_number names (actual_of w) }

-- a cover, a latch with its control, or the use of a model
abbrev pub part_on : List (List ℕ) → Head → Statement → Option Piece
part_on names head.Latch s = Some (Latch (latch_of names s.head) (control_of s.head.words))
part_on names head.Subckt s = Some (Inst (nth_word 1 s.head.words) (map (pair_from names) (drop 2 s.head.words)) s.head.number)
part_on names h s = option_map Names (cover_of names h s)

-- ---- the whole text

abbrev pub inputs_of : List (List ℕ) → List Statement → List PortDef
inputs_of names statements = flat_map (λ s. inputs_on names (kind_of s.head) s.head) statements

abbrev pub outputs_of : List (List ℕ) → List Statement → List PortDef
outputs_of names statements = flat_map (λ s. outputs_on names (kind_of s.head) s.head) statements

abbrev pub clocks_of : List Statement → List (List ℕ)
clocks_of statements = flat_map (λ s. clocks_on (kind_of s.head) s.head) statements

abbrev pub parts_of : List (List ℕ) → List Statement → List Piece
parts_of names statements = flat_map (λ s. option_to_list (part_on names (kind_of s.head) s)) statements

-- the model that the lines spell, under its name
abbrev pub spelled : List ℕ → List LogicalLine → Model
spelled name lines =
    let statements = statements_of lines in
    let names = names_of statements in
    record {
      name = name;
      names = names;
      inputs = inputs_of names statements;
      outputs = outputs_of names statements;
      clocks = clocks_of statements;
      pieces = parts_of names statements;
    }

-- ---- what stands above a line

abbrev pub is_end : Head → Bool
is_end head.End = true
is_end _ = false

abbrev pub ended_by : List Statement → Bool
ended_by [] = false
ended_by (s ∷ []) = is_end (kind_of s.head)
ended_by (s ∷ t ∷ statements) = ended_by (t ∷ statements)

-- the cover of the last statement, if it is one
abbrev pub last_cover : List (List ℕ) → List Statement → Option Cover
last_cover names [] = None
last_cover names (s ∷ []) = cover_of names (kind_of s.head) s
last_cover names (s ∷ t ∷ statements) = last_cover names (t ∷ statements)

abbrev pub latch_control_on : Head → LogicalLine → Option (List ℕ)
latch_control_on head.Latch l = control_of l.words
latch_control_on _ l = None

-- the first control that is a name
abbrev pub control_by : List Statement → Option (List ℕ)
control_by [] = None
control_by (s ∷ statements) = option_or (latch_control_on (kind_of s.head) s.head) (control_by statements)

abbrev pub is_some_statement : List Statement → Bool
is_some_statement [] = false
is_some_statement (s ∷ statements) = true

-- what the statements above a line say of it
abbrev pub seen_by : List Statement → Seen
seen_by statements = record {
  begun = is_some_statement statements;
  ended = ended_by statements;
  names = names_of statements;
  current = last_cover (names_of statements) statements;
  control = control_by statements;
}

-- ---- models

-- the lines of a model: a `.model` line and those up to the next
pub record ModelText : Type 0 where
  pub first : LogicalLine
  pub rest : List LogicalLine

-- lines at the front, and the models after them
pub record Parted : Type 0 where
  pub front : List LogicalLine
  pub models : List ModelText

abbrev pub onto : LogicalLine → Head → Parted → Parted
onto l head.Model p = record { front = []; models = record { first = l; rest = p.front } ∷ p.models }
onto l _ p = record { front = l ∷ p.front; models = p.models }

abbrev pub parted : List LogicalLine → Parted
parted [] = record { front = []; models = [] }
parted (l ∷ lines) = onto l (kind_of l) (parted lines)

abbrev pub models_of : List LogicalLine → List ModelText
models_of lines = (parted lines).models

abbrev pub model_lines : ModelText → List LogicalLine
model_lines m = m.first ∷ m.rest

abbrev pub name_of : ModelText → List ℕ
name_of m = nth_word 1 m.first.words

-- a model says what its lines spell
abbrev pub spelled_model : ModelText → Model
spelled_model m = spelled (name_of m) (model_lines m)

abbrev pub is_some_model : List ModelText → Bool
is_some_model [] = false
is_some_model (m ∷ models) = true

-- the lines of the last model
abbrev pub last_lines : List ModelText → List LogicalLine
last_lines [] = []
last_lines (m ∷ []) = model_lines m
last_lines (m ∷ n ∷ models) = last_lines (n ∷ models)

-- what the models above a line say of it
abbrev pub above_by : List ModelText → Above
above_by models = record { models = map name_of models; this = seen_by (statements_of (last_lines models)) }

-- each line is right, by those above it
unfoldable pub AreRight : List LogicalLine → List LogicalLine → Type 0
AreRight above [] = Unit {0}
AreRight above (l ∷ lines) = IsRightLine (above_by (models_of above)) l × AreRight (above ++ l ∷ []) lines

-- the bytes are the text of these models: each line is right, one begins a model, and this is what they spell
pub record AreModels (bytes : List ℕ) (models : List Model) : Type 0 where
  pub right : AreRight [] (logical_lines true bytes)
  pub some : is_some_model (models_of (logical_lines true bytes)) ≡ true
  pub models_are : models ≡ map spelled_model (models_of (logical_lines true bytes))
