use Rattle.diag_evidence.proofs.Vocabulary.{◌≡◌, length, HaveWidth}
use Rattle.diag_evidence.proofs.sheets.blank_rows.Given as goal

abbrev pub invariant-rows : goal.invariant-rows
invariant-rows l = record {
  count : length l.rows.items ≡ l._k;
  width : HaveWidth l.pins l.rows.items;
}
