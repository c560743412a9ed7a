use Rattle.diag_growth.proofs.Vocabulary.{arith, advances_then}
use Rattle.diag_growth.proofs.{Tested.seat_later, Tested.only_then, Tested.cells_end, Tested.cells_next, Explained.held}
use Rattle.diag_growth.proofs.cells.test_cells.Goals as goal

pub test_cell-requires-clause-seat : goal.test_cell-requires-clause-seat
test_cell-requires-clause-seat g c = seat_later c.cells.invariant.advances.more c.requires.seat

pub cells-preserved : goal.cells-preserved
cells-preserved g c = let old = c.cells.invariant in let now = c.in_ok-test_cell.ensures in record {
  advances = advances_then old.advances now.advances;
  only = only_then old.only now.only;
  cells_each = λ f e. let before = now.advances.narrows f e in cells_next (held old.advances before) now.advances.more (old.cells_each f before) (now.cell_each f e);
  loads = let a = old.loads in let b = now.loads in omega arith;
}

pub returns-clause-cells_each : goal.returns-clause-cells_each
returns-clause-cells_each g c = λ f e. cells_end (let a = c.cells.auto.address-end in let b = c.cells-test.false in omega arith) (c.cells.invariant.cells_each f e)

pub returns-in_err-test_cell-clause-only : goal.returns-in_err-test_cell-clause-only
returns-in_err-test_cell-clause-only g c = only_then c.cells.invariant.only c.test_cell.ensures.only

pub returns-clause-only : goal.returns-clause-only
returns-clause-only g c = c.cells.invariant.only
