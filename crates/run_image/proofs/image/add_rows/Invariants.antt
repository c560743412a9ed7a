use Rattle.run_image.proofs.Vocabulary.{◌≡◌, ◌*◌, take, length, IsFitting, IsSameRun, HasAddedAll, readings_in}
use Rattle.run_image.proofs.image.add_rows.Given as goal

abbrev pub invariant-rows : goal.invariant-rows
invariant-rows g l = record {
  same : IsSameRun l.fn.rows l.rows;
  fits : IsFitting l.rows;
  vectors : l.rows.vectors ≡ l.fn.rows.vectors;
  readings : l.rows.readings ≡ l.fn.rows.readings;
  from : l.from ≡ l._k * length l.rows.image.outputs;
  adds : HasAddedAll l.fn.rows.copies (take l._k (readings_in l.count l.fn.rows)) l.fn.rows.block.text l.rows.block.text (g.K.Sink.sink_state l.fn.sink) (g.K.Sink.sink_state l.sink);
}
