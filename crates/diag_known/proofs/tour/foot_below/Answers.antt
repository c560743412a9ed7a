use Rattle.diag_known.proofs.Vocabulary.{sym, subst, inl, IsPin, is_pin}
use Rattle.diag_known.proofs.Touring.{hangs_on, hangs_at, from_here}
use Rattle.diag_known.proofs.tour.foot_below.Goals as goal

pub returns-in_default-clause-stays : goal.returns-in_default-clause-stays
returns-in_default-clause-stays c = record {
  step = c.step_at-step.result;
  here = c.step_at-step.ensures;
  other = c.step_at-other.result;
  there = c.step_at-other.ensures;
  why = inl (subst IsPin (sym c.in_default.is) is_pin);
}

pub foot_from-requires : goal.foot_from-requires
foot_from-requires c = hangs_on c.requires.known c.requires.trees c.args.pin c.args.i c.step_at-step.result c.in-Feet.first c.in-Feet.second c.step_at-step.ensures c.in-Feet.is (from_here c.requires.left c.step_at-step.ensures)

pub returns-clause-hangs : goal.returns-clause-hangs
returns-clause-hangs c = hangs_at c.requires.known c.requires.trees c.args.pin c.args.i c.step_at-step.result c.in-Feet.first c.in-Feet.second c.foot_from.result c.step_at-step.ensures c.in-Feet.is
    (from_here c.requires.left c.step_at-step.ensures) c.foot_from.ensures.which c.foot_from.ensures.from
