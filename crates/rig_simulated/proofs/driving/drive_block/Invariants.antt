use Rattle.rig_simulated.specs.Tracked.{AreAlikeBelow, IsTracked}
use Rattle.rig_simulated.proofs.driving.drive_block.Given as goal

abbrev pub invariant-pins : goal.invariant-pins
invariant-pins l = record {
  tracked : IsTracked l.knots l.pins l.low l.kept;
  same : AreAlikeBelow l.k l.kept.drive l.drive;
}
