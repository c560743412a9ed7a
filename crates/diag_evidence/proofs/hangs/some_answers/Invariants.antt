use Rattle.diag_evidence.proofs.Vocabulary.{◌≡◌, false, take, some_answers}
use Rattle.diag_evidence.proofs.hangs.some_answers.Given as goal

abbrev pub invariant-hangs : goal.invariant-hangs
invariant-hangs l = some_answers l.forest (take l.k l.hangs) l.reads.rows ≡ false
