use Rattle.diag_known.proofs.Vocabulary.{◌⊎◌, ◌<◌, inl, inr, sym, subst, arith, IsPin, is_pin}
use Rattle.diag_known.proofs.Places.{feet_here, steps_down}
use Rattle.diag_known.proofs.descents.foot_down.Goals as goal
use Rattle.diag_known.proofs.descents.foot_down.Goals.{else-i-j-via-then-i-j+else-not-is_pin, else-i-j-via-else-i-j}

pub returns-in_default-clause-stays : goal.returns-in_default-clause-stays
returns-in_default-clause-stays c = record {
  step = c.step_at-step.result;
  here = c.step_at-step.ensures;
  other = c.step_at-other.result;
  there = c.step_at-other.ensures;
  why = inl (subst IsPin (sym c.in_default.is) is_pin);
}

pub other_foot-requires : goal.other_foot-requires
other_foot-requires c = (feet_here c.requires.known c.args.i c.step_at-step.result c.in-Feet.first c.in-Feet.second c.step_at-step.ensures c.in-Feet.is).differ

pub returns-clause-down : goal.returns-clause-down
returns-clause-down c =
    let early : IsPin c.step_at-other.result.stand ⊎ (c.args.j < c.args.i) = elim c.else-i-j.branch [
      | else-i-j-via-then-i-j+else-not-is_pin w ↦ inl (w.is_pin.ensures.pin w.if-not-is_pin.false)
      | else-i-j-via-else-i-j w ↦ inr (let late = w.if-i-j.false in let differ = (c.requires.two).2 in omega (arith, late, differ))
    ] in
    steps_down c.requires.known c.args.i c.args.j c.step_at-step.result c.step_at-other.result c.in-Feet.first c.in-Feet.second c.step_at-step.ensures c.in-Feet.is c.step_at-other.ensures
    c.other_foot.result c.other_foot.ensures.which c.other_foot.ensures.apart early
