-- The netlist of the generated design's one model.
use Rattle.cmd_bench.proofs.Vocabulary.{◌≡◌, false, List, [], ◌∷◌, length, refl, arith, digits, Model, bench_draft}
use Rattle.design_flatten.specs.declared.model.Signal.{Signal}
use Rattle.design_flatten.specs.Vocabulary.{Line, after, is_left, is_over, uses_of, KeepsRules, controls_of, IsReadFrom, IsNetlistOf}
use Rattle.cmd_bench.proofs.Text.{bench_model}

abbrev models : List Model
models = bench_model ∷ []

abbrev lines : List (Line Signal)
lines = after models 0

no_uses : length (uses_of models) ≡ 0
no_uses = refl

no_controls : length (controls_of models lines) ≡ 0
unfolding after
no_controls = refl

none_left : is_left lines ≡ false
unfolding after
none_left = refl

within : is_over lines ≡ false
unfolding digits after
within = refl

rules : KeepsRules models
rules = record {
  known = λ k less. absurd (let no : ⊥ = omega (arith, less, no_uses) in no);
  given = λ k less. absurd (let no : ⊥ = omega (arith, less, no_uses) in no);
  ends = λ k less _. absurd (let no : ⊥ = omega (arith, less, no_uses) in no);
}

read : IsReadFrom models lines bench_draft
unfolding digits after
read = record { names = refl; inputs = refl; outputs = refl; covers = refl; latches = refl }

pub is_netlist : IsNetlistOf models bench_draft
is_netlist = record {
  lines = lines;
  read = record {
    rules = rules;
    design = record {
      replaced = 0;
      most = omega arith;
      substituted = record { reached = refl; none_left = none_left };
      within = within;
    };
    one_control = λ j k less _. absurd (let no : ⊥ = omega (arith, less, no_controls) in no);
    netlist = read;
  };
}
