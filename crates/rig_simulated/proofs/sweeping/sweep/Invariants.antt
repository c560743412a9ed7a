use Rattle.rig_simulated.proofs.Vocabulary.{◌≡◌, length, IsLatched, AreTwins, AreAtOutputs}
use Rattle.rig_simulated.proofs.sweeping.sweep.Given as goal

abbrev pub invariant-turns : goal.invariant-turns
invariant-turns l = record {
  tables : length l.low_tables ≡ length l.knots;
  marks : AreAtOutputs l.low_tables l.gates;
  twins : AreTwins IsLatched l.fn.gates l.gates;
}
