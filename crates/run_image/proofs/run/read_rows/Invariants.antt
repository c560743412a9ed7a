use Rattle.run_image.proofs.Vocabulary.{◌≡◌, ◌*◌, take, flat_map, length, row_at}
use Rattle.run_image.proofs.run.read_rows.Given as goal

abbrev pub invariant-rows : goal.invariant-rows
invariant-rows l = record {
  from : l.from ≡ l.k * length l.pins;
  length_is : length l.outs ≡ length l.fn.outs;
  rows : take l.from l.outs ≡ flat_map (row_at l.pins) (take l.k l.reads);
}
