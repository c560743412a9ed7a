-- The text of the generated design is that of its netlist.
use Rattle.std.proofs.Common.{◌≡◌, ◌≤◌, true, [], ◌∷◌, map, length, None, refl, arith, codes}
use Rattle.cmd_bench.proofs.Vocabulary.{digits, Model, bench_design, bench_names, bench_cover, bench_latches, bench_draft}
use Rattle.base_text.specs.Vocabulary.{logical_lines, texts_of, physical_lines}
use Rattle.design_netlist.specs.declared.netlist_data.LatchDef.{LatchDef}
use Rattle.design_flatten.specs.declared.model.Piece.{Piece, TheVariants.Names, TheVariants.Latch}
use Rattle.design_blif.specs.{Grammar.AreModels, Grammar.is_some_model, Grammar.models_of, Grammar.spelled_model, Heads.head_of}
use Rattle.design_blif.specs.Faults.{latch_parts_fault, first_fault}
use Rattle.design_blif.proofs.RightLemmas.{right_lines}

abbrev pub latch_piece : LatchDef → Piece
latch_piece l = Latch l None

abbrev pub bench_model : Model
bench_model = record {
  name = codes "bench";
  names = bench_names;
  inputs = bench_draft.inputs;
  outputs = bench_draft.outputs;
  clocks = [];
  pieces = Names bench_cover ∷ map latch_piece bench_latches;
}

pub short : length bench_design ≤ 16777216
unfolding digits
short = omega arith

some : is_some_model (models_of (logical_lines true bench_design)) ≡ true
unfolding digits physical_lines texts_of head_of
some = refl

models_are : bench_model ∷ [] ≡ map spelled_model (models_of (logical_lines true bench_design))
unfolding digits physical_lines texts_of head_of
models_are = refl

no_fault : first_fault [] (logical_lines true bench_design) ≡ None
unfolding digits physical_lines texts_of head_of first_fault latch_parts_fault
no_fault = refl

pub text_is : AreModels bench_design (bench_model ∷ [])
text_is = record { right = right_lines (logical_lines true bench_design) [] no_fault; some = some; models_are = models_are }
