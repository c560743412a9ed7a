use Rattle.std.proofs.Common.{◌≡◌, ℕ, List, take, map}
use Rattle.design_flatten.specs.Vocabulary.{no_model, ordered_lines, first_model, lean_line, lean_in, body_at, IsBodyOf, IsBodyAt}
use Rattle.design_flatten.proofs.bodies.Bodies.new.Given as goal

abbrev pub invariant-models : goal.invariant-models
invariant-models l = record {
  models : l.bodies.models.now ≡ l.models;
  names : l.bodies.first.names.now ≡ (first_model l.models).names;
  lines : map lean_in l.bodies.first.lines.items ≡ map (lean_line l.models) (ordered_lines (first_model l.models));
  none : IsBodyOf l.models no_model l.bodies.none;
  named : (w : List ℕ) → IsBodyAt l.models (take l.model-index l.models) w (body_at l.bodies w);
}
