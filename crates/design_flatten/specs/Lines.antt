-- The lines of models and of the substituted design.
use Rattle.std.specs.Prelude.{ℕ, ◌+◌, ◌≡◌, length, Bool, true, false, List, [], ◌∷◌, ◌++◌, map, Option, option_map}
use Rattle.design_netlist.specs.declared.netlist_data.{Lit.Lit, PortDef.PortDef}
use Rattle.design_flatten.specs.{declared.model.PairDef.PairDef, declared.model.Piece.Piece, declared.model.Model.Model, InOrder.in_order}
use Rattle.design_flatten.specs.declared.model.Piece.TheVariants as piece

abbrev pub no_model : Model
no_model = record { name = []; names = []; inputs = []; outputs = []; clocks = []; pieces = [] }

-- a formal, and the signal that it becomes
pub record Pair (S : Type 0) : Type 0 where
  pub formal : List ℕ
  pub actual : S

-- the control of a latch: a signal that was given for it, or the name that it keeps
pub data Control (S : Type 0) : Type 0 where
  GivenControl : S → Control S
  NamedControl : List ℕ → Control S

-- what a line says, over signals S: a word of `.inputs` or `.outputs`; a cover with its output, its inputs, its rows and
-- whether they list the off-set; a latch with its input, its output, its initial bit and its control; the use of a model with
-- what is given, and the way to it
pub data Part (S : Type 0) : Type 0 where
  InputPart : S → Part S
  OutputPart : S → Part S
  CoverPart : S → List S → List (List Lit) → Bool → Part S
  LatchPart : S → S → Bool → Option (Control S) → Part S
  UsePart : List ℕ → List (Pair S) → List ℕ → Part S

-- a line, or one word of it, with its number
pub record Line (S : Type 0) : Type 0 where
  pub number : ℕ
  pub part : Part S

abbrev pub pair_of : PairDef → Pair ℕ
pair_of p = record { formal = p.formal; actual = p.actual }

abbrev pub input_line : PortDef → Line ℕ
input_line p = record { number = p.line; part = InputPart p.signal }

abbrev pub output_line : PortDef → Line ℕ
output_line p = record { number = p.line; part = OutputPart p.signal }

abbrev pub piece_line : Piece → Line ℕ
piece_line (piece.Names c) = record { number = c.line; part = CoverPart c.out c.ins c.rows c.off }
piece_line (piece.Latch l control) = record { number = l.line; part = LatchPart l.from l.out l.init (option_map NamedControl control) }
piece_line (piece.Inst m pairs line) = record { number = line; part = UsePart m (map pair_of pairs) [] }

-- by line number; of one number inputs come first, then outputs and pieces
abbrev pub number_of_line : {S : Type 0} → Line S → ℕ
number_of_line l = l.number

abbrev pub ordered_lines : Model → List (Line ℕ)
ordered_lines m = in_order number_of_line (map input_line m.inputs ++ map output_line m.outputs ++ map piece_line m.pieces)

-- the way to a line that uses a model ends with its place among those of its model
abbrev pub with_place : ℕ → Part ℕ → Part ℕ
with_place k (UsePart m pairs way) = UsePart m pairs (k ∷ [])
with_place k p = p

abbrev pub next_place : ℕ → Part ℕ → ℕ
next_place k (UsePart m pairs way) = k + 1
next_place k p = k

abbrev pub with_places : ℕ → List (Line ℕ) → List (Line ℕ)
with_places k [] = []
with_places k (l ∷ lines) = record { number = l.number; part = with_place k l.part } ∷ with_places (next_place k l.part) lines

-- the lines of a model
abbrev pub lines_of_model : Model → List (Line ℕ)
lines_of_model m = with_places 0 (ordered_lines m)

abbrev pub is_port : {S : Type 0} → Part S → Bool
is_port (InputPart s) = true
is_port (OutputPart s) = true
is_port _ = false

abbrev pub is_use : {S : Type 0} → Part S → Bool
is_use (UsePart m pairs way) = true
is_use _ = false

-- rows are as long as their cover's inputs
abbrev pub RowsFit : ℕ → List (List Lit) → Type 0
RowsFit n [] = Unit {0}
RowsFit n (row ∷ rows) = (length row ≡ n) × RowsFit n rows

abbrev pub RowsFitIn : Piece → Type 0
RowsFitIn (piece.Names c) = RowsFit (length c.ins) c.rows
RowsFitIn _ = Unit {0}

abbrev pub PiecesFit : List Piece → Type 0
PiecesFit [] = Unit {0}
PiecesFit (p ∷ pieces) = RowsFitIn p × PiecesFit pieces

abbrev pub HaveRightRows : List Model → Type 0
HaveRightRows [] = Unit {0}
HaveRightRows (m ∷ models) = PiecesFit m.pieces × HaveRightRows models
