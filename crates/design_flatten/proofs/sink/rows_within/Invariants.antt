use Rattle.design_flatten.proofs.Vocabulary.{◌≡◌, ◌+◌, ◌≤◌, drop, row_size}
use Rattle.std.specs.List.{sum_by}
use Rattle.design_flatten.proofs.sink.rows_within.Given as goal

abbrev pub invariant-rows : goal.invariant-rows
invariant-rows l = record {
  left : l.left ≤ l.room;
  sum : l.room + sum_by row_size (drop l.row-index l.rows) ≡ l.left + sum_by row_size l.rows;
}
