use Rattle.rig_doubled.proofs.Vocabulary.{◌∙◌, arith, pins_of}
use Rattle.rig_doubled.proofs.Keeping.{wide_still, many_still}
use Rattle.rig_doubled.proofs.kept.ask_times.Goals as goal

pub times-preserved : goal.times-preserved
times-preserved g c = record {
  machine = c.ask.ensures.machine ∙ c.times.invariant.machine;
  later = omega (arith, c.ask.ensures.later, c.times.invariant.later);
  loads = omega (arith, c.in-Ok-true.ensures.loads, c.times.invariant.loads);
  narrows = λ f e. c.times.invariant.narrows f (c.ask.ensures.narrows f e);
  again_pins = wide_still (pins_of c.args.config.now.config.shape) c.times.again c.ask.new.again c.ask.ensures.lengths c.times.invariant.again_pins;
  again = many_still c.times.again c.ask.new.again c.ask.ensures.lengths ∙ c.times.invariant.again;
}
