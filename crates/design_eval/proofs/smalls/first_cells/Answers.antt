use Rattle.design_eval.proofs.Vocabulary.{get_or, false, ◌∙◌, length-set}
use Rattle.design_eval.proofs.SmallLemmas.{cells-copied}
use Rattle.design_eval.proofs.smalls.first_cells.Goals as goal

pub cells-preserved : goal.cells-preserved
cells-preserved c = (
  length-set c.cells.first c.cells.a (get_or c.args.cells.now c.cells.a false) ∙ c.cells.invariant.0,
  cells-copied c.cells.first c.args.cells.now c.cells.a c.cells.invariant.0 c.cells-test.true c.cells.invariant.1,
)
