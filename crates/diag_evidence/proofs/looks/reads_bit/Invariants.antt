use Rattle.diag_evidence.proofs.Vocabulary.{◌≡◌, false, take, reads_somewhere}
use Rattle.diag_evidence.proofs.looks.reads_bit.Given as goal

abbrev pub invariant-rows : goal.invariant-rows
invariant-rows l = reads_somewhere (take l.k l.rows) l.pin l.bit ≡ false
