use Rattle.diag_evidence.proofs.Vocabulary.{◌≡◌, false, take, parts}
use Rattle.diag_evidence.proofs.looks.parts.Given as goal

abbrev pub invariant-rows : goal.invariant-rows
invariant-rows l = parts (take l.k l.rows) l.a l.b ≡ false
