-- A text of one model that uses no other.
use Rattle.std.proofs.Common.{◌≡◌, ℕ, true, List, [], ◌∷◌, map, refl, sym, ap, ◌∙◌, subst, ◌↔◌}
use Rattle.design_laws.proofs.Vocabulary.{LogicalLine, logical_lines, NetlistData, IsNetlistOf, AreOfOneModel, IsShortDesign}
use Rattle.design_blif.specs.Grammar.{Statement, ModelText, statements_of, names_of, inputs_of, outputs_of, clocks_of, parts_of, models_of, model_lines, name_of, spelled_model, is_some_model, kind_of, AreRight}
use Rattle.design_blif.specs.Designs.{IsDesign}
use Rattle.design_laws.proofs.AscendingLemmas.{Ascend, statement_number, lines_ascend, statements_ascend}
use Rattle.design_laws.proofs.OrderedLemmas.{Each}
use Rattle.design_laws.proofs.LineLemmas.{IsFine, KeepsTo}
use Rattle.design_laws.proofs.TextLemmas.{IsFineLine, KeepsLine, each_statement, fine_lines, the_model, one_control}
use Rattle.design_laws.proofs.ModelLemmas.{spelled_by, is_netlist}
use Rattle.design_laws.proofs.ModelLemmas as model

module _ (bytes : List ℕ) (d : NetlistData) (single : AreOfOneModel (logical_lines true bytes)) (right : AreRight [] (logical_lines true bytes)) where
  abbrev ls : List LogicalLine
  ls = logical_lines true bytes

  abbrev ss : List Statement
  ss = statements_of ls

  fine : Each (λ s. IsFine (kind_of s.head) s.head.words) ss
  fine = each_statement IsFineLine ls (fine_lines ls [] right single.alone)

  ascends : Ascend statement_number 1 ss
  ascends = statements_ascend 1 ls (lines_ascend bytes)

  abbrev one : List ℕ
  one = (one_control ls right single.one).0

  keeps : Each (λ s. KeepsTo one (kind_of s.head) s.head.words) ss
  keeps = each_statement (KeepsLine one) ls (one_control ls right single.one).1

  abbrev the_text : (m : ModelText) × (models_of ls ≡ m ∷ []) × (statements_of (model_lines m) ≡ ss)
  the_text = the_model ls [] right refl single.one

  abbrev name : List ℕ
  name = name_of the_text.0

  models_are : map spelled_model (models_of ls) ≡ model.the_model name ss fine ascends one keeps ∷ []
  models_are = ap (map spelled_model) the_text.1 ∙ ap (λ (x : List Statement). record { name = name; names = names_of x; inputs = inputs_of (names_of x) x; outputs = outputs_of (names_of x) x; clocks = clocks_of x; pieces = parts_of (names_of x) x } ∷ []) the_text.2

  some : is_some_model (models_of ls) ≡ true
  some = ap is_some_model the_text.1

  to_short : IsDesign bytes d → IsShortDesign bytes d
  to_short h =
      let ms = h.text.models_are ∙ models_are in
      let s = spelled_by name ss fine ascends one keeps d (subst (λ x. IsNetlistOf x d) ms h.netlist) in
      record { right = right; netlist = s.0; few = s.1; small = s.2; checked = h.checked }

  from_short : IsShortDesign bytes d → IsDesign bytes d
  from_short h = record {
    models = model.the_model name ss fine ascends one keeps ∷ [];
    text = record { right = right; some = some; models_are = sym models_are };
    netlist = is_netlist name ss fine ascends one keeps d h.netlist h.few h.small;
    checked = h.checked;
  }

pub one_model_law : (bytes : List ℕ) (d : NetlistData) → AreOfOneModel (logical_lines true bytes) → IsDesign bytes d ↔ IsShortDesign bytes d
one_model_law bytes d single = (λ h. to_short bytes d single h.text.right h, λ h. from_short bytes d single h.right h)
