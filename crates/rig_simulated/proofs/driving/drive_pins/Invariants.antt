use Rattle.rig_simulated.proofs.Vocabulary.{◌-◌, ◌≤◌, length, AreAlikeBelow, IsTracked}
use Rattle.rig_simulated.proofs.driving.drive_pins.Given as goal

abbrev pub invariant-further : goal.invariant-further
invariant-further l = record {
  tracked : IsTracked l.knots l.pins l.low l.kept;
  within : l.from ≤ length l.pins;
  same : AreAlikeBelow l.from l.kept.drive l.drive;
}

abbrev pub decreases-further : goal.decreases-further
decreases-further l = length l.drive - l.from
