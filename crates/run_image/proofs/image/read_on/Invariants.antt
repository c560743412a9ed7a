use Rattle.run_image.proofs.Vocabulary.{◌≡◌, ◌*◌, length, IsFitting, IsSameRun, ReadsMore}
use Rattle.run_image.proofs.image.read_on.Given as goal

abbrev pub invariant-vectors : goal.invariant-vectors
invariant-vectors l = record {
  same : IsSameRun l.fn.rows l.rows;
  fits : IsFitting l.rows;
  block : l.rows.block ≡ l.fn.rows.block;
  from : l.end ≡ l.k * length l.rows.image.inputs;
  reads : ReadsMore l.k l.fn.rows l.rows;
}
