use Rattle.design_flatten.proofs.Vocabulary.{◌≡◌, ◌≤◌, ◌++◌, ◌+◌, ◌*◌, ◌-◌, List, length, vec_len, Signal}
use Rattle.design_flatten.specs.Vocabulary.{Line, after, first_model, lean_models, left_of, AreFrames, AreOrigins, IsSink}
use Rattle.design_flatten.proofs.work.replace_all.Given as goal

abbrev pub invariant-work : goal.invariant-work
invariant-work l = record {
  most : l.replaced ≤ 65535;
  sink : (lines : List (Line Signal)) × IsSink (first_model (lean_models l.bodies.models.now)).names lines l.made.sink × (after (lean_models l.bodies.models.now) l.replaced ≡ lines ++ left_of (lean_models l.bodies.models.now) l.stack.items);
  frames : AreFrames l.replaced l.stack.items;
  count : length l.made.origins.items ≡ l.replaced + 1;
  origins : AreOrigins (lean_models l.bodies.models.now) l.made.origins.items;
}

abbrev pub decreases-work : goal.decreases-work
decreases-work l = 2 * (65535 - l.replaced) + vec_len l.stack
