use Rattle.diag_evidence.proofs.Vocabulary.{◌≡◌, true, is_right_before}
use Rattle.diag_evidence.proofs.table_rows.is_right.Given as goal

abbrev pub invariant-cycles : goal.invariant-cycles
invariant-cycles l = is_right_before l.sheet.setting l.sheet.reads.items l.sheet.opposite.items l.pin l.cycle ≡ true
