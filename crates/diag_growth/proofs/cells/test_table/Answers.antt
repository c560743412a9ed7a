use Rattle.std.proofs.Common.{Result, Ok, Err, OnOk}
use Rattle.diag_growth.proofs.{Tested.seat_later, Tested.table_next, Explained.held}
use Rattle.diag_growth.proofs.cells.test_table.Goals as goal

on_ok : {T E P Q : Type 0} (r : Result T E) → OnOk r P → (P → Q) → OnOk r Q
on_ok (Ok x) p h = h p
on_ok (Err e) p h = tt

pub test_register-requires-clause-seat : goal.test_register-requires-clause-seat
test_register-requires-clause-seat g c = seat_later c.in_ok-test_cells.ensures.advances.more c.requires.seat

pub returns-clause-table_each : goal.returns-clause-table_each
returns-clause-table_each g c = on_ok c.test_register.result c.test_register.ensures.register_each (λ each f e. let before = c.test_register.ensures.advances.narrows f e in table_next (held c.in_ok-test_cells.ensures.advances before) c.test_register.ensures.advances.more (c.in_ok-test_cells.ensures.cells_each f before) (each f e))
