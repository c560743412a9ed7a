use Rattle.diag_known.proofs.Vocabulary.{◌+◌, AreTwo, Descends}
use Rattle.diag_known.proofs.descents.descend.Given as goal

abbrev pub invariant-down : goal.invariant-down
invariant-down l = record {
  two : AreTwo l.known.steps l.i l.j;
  steps : Descends l.facts l.known.steps l.fn.from l.fn.other l.downs.items l.i l.j;
}

abbrev pub decreases-down : goal.decreases-down
decreases-down l = l.i + l.j
