use Rattle.design_eval.proofs.Vocabulary.{arith, refl, ◌∙◌, length-set}
use Rattle.design_eval.proofs.TableLemmas.{cell-is, cells-more}
use Rattle.design_eval.proofs.tables.cells_of.Goals as goal

pub cells-preserved : goal.cells-preserved
cells-preserved c = (
  length-set c.cells.cells c.cells.a c.truth_of.result ∙ c.cells.invariant.0,
  cells-more c.args.cover.now c.cells.cells c.cells.a c.truth_of.result c.cells.invariant.0 c.cells-test.true c.cells.invariant.1
      (cell-is _ _ c.args.cover.now _ _ c.cells.a c.args.count _ c.truth_of.ensures c.six_bits.ensures c.as_slice.ensures refl c.requires.count refl),
)

pub returns : goal.returns
returns c = record { len = c.cells.invariant.0; each = λ n lt. c.cells.invariant.1 n (omega arith) }
