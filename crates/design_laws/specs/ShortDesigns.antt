-- The design of a text of one model that uses no other: what the lines say one by one.
use Rattle.std.specs.Prelude.{ℕ, ◌≡◌, ◌+◌, ◌≤◌, Bool, true, false, List, [], ◌∷◌, length}
use Rattle.std.specs.{List.list_any, List.flat_map, List.sum_by, List.count_by, Option.option_to_list}
use Rattle.base_text.specs.Lines.{LogicalLine, logical_lines}
use Rattle.design_netlist.specs.declared.netlist_data.{NetlistData.NetlistData, Cover.Cover, LatchDef.LatchDef}
use Rattle.design_netlist.specs.Checks.{IsChecked}
use Rattle.design_blif.specs.declared.head.Head.{Head}
use Rattle.design_blif.specs.declared.head.Head.TheVariants as head
use Rattle.design_blif.specs.Grammar.{Statement, kind_of, statements_of, names_of, inputs_of, outputs_of, cover_of, latch_of, AreRight}

-- ---- one model

abbrev pub is_model : Head → Bool
is_model head.Model = true
is_model _ = false

abbrev pub is_subckt : Head → Bool
is_subckt head.Subckt = true
is_subckt _ = false

-- one line begins a model, and no line uses one
pub record AreOfOneModel (lines : List LogicalLine) : Type 0 where
  pub one : count_by (λ l. is_model (kind_of l)) lines ≡ 1
  pub alone : list_any (λ l. is_subckt (kind_of l)) lines ≡ false

-- ---- its netlist

-- each `.names` line with the rows below it is a cover, in order
abbrev pub covers_of : List (List ℕ) → List Statement → List Cover
covers_of names statements = flat_map (λ s. option_to_list (cover_of names (kind_of s.head) s)) statements

abbrev pub latches_on : List (List ℕ) → Head → LogicalLine → List LatchDef
latches_on names head.Latch l = latch_of names l ∷ []
latches_on names _ l = []

-- each `.latch` line is a latch, in order
abbrev pub latches_of : List (List ℕ) → List Statement → List LatchDef
latches_of names statements = flat_map (λ s. latches_on names (kind_of s.head) s.head) statements

-- the signals are numbered by first appearance; the inputs and the outputs are the words of their lines strung together
pub record IsSpelledBy (statements : List Statement) (draft : NetlistData) : Type 0 where
  pub names : draft.names ≡ names_of statements
  pub inputs : draft.inputs ≡ inputs_of (names_of statements) statements
  pub outputs : draft.outputs ≡ outputs_of (names_of statements) statements
  pub covers : draft.covers ≡ covers_of (names_of statements) statements
  pub latches : draft.latches ≡ latches_of (names_of statements) statements

-- the characters of a cover's rows, output characters among them
abbrev pub rows_size : Cover → ℕ
rows_size c = sum_by (λ row. length row + 1) c.rows

-- each line is right, by those above it; the draft is what they spell, within the limits; and it is sound
pub record IsShortDesign (bytes : List ℕ) (draft : NetlistData) : Type 0 where
  pub right : AreRight [] (logical_lines true bytes)
  pub netlist : IsSpelledBy (statements_of (logical_lines true bytes)) draft
  pub few : length draft.names ≤ 65535
  pub small : sum_by rows_size draft.covers ≤ 16777216
  pub checked : IsChecked draft
