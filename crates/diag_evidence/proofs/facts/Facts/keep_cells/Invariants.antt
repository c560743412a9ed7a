use Rattle.diag_evidence.specs.Vocabulary.{Gains, right_cells}
use Rattle.diag_evidence.proofs.facts.Facts.keep_cells.Given as goal

abbrev pub invariant-cells : goal.invariant-cells
invariant-cells l = record {
  gains : Gains (right_cells l.t.0 l.sheet.setting l.sheet.reads.items l.sheet.opposite.items l.pin l.address) l.fn.self l.self;
}
