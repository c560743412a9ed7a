use Rattle.diag_known.specs.Vocabulary.{GrowsIn, IsKnown}
use Rattle.diag_sweep.proofs.learn.learn_hangs.Given as goal

abbrev pub invariant-hangs : goal.invariant-hangs
invariant-hangs l = record {
  known : IsKnown l.facts l.known;
  grows : GrowsIn l.field l.fn.known.steps l.known.steps;
}
