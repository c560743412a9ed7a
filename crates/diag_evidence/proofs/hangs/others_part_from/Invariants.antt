use Rattle.diag_evidence.proofs.Vocabulary.{◌≡◌, true, take, others_part_from}
use Rattle.diag_evidence.proofs.hangs.others_part_from.Given as goal

abbrev pub invariant-hangs : goal.invariant-hangs
invariant-hangs l = others_part_from l.forest (take l.k l.hangs) l.reads.rows l.wire.0 l.q ≡ true
