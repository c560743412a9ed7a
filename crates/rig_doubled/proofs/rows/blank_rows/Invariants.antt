use Rattle.rig_doubled.proofs.Vocabulary.{◌≡◌, length, HaveWidth}
use Rattle.rig_doubled.proofs.rows.blank_rows.Given as goal

abbrev pub invariant-rows : goal.invariant-rows
invariant-rows l = record {
  count : length l.rows.items ≡ l._k;
  wide : HaveWidth l.pins l.rows.items;
}
