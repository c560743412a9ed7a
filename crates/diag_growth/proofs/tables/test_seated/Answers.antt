use Rattle.diag_growth.proofs.Vocabulary.{◌∙◌, refl, sym, on_ok_so}
use Rattle.diag_growth.proofs.{Fresh.takes_kept, Fresh.takes_fresh, Testing.kept_over, Testing.kept_unseated, Testing.only_none}
use Rattle.diag_growth.proofs.tables.test_seated.Goals as goal

pub returns-then-is_kept-clause-table_each : goal.returns-then-is_kept-clause-table_each
returns-then-is_kept-clause-table_each g c = λ f e. record { at = λ h is holds seated right. c.is_kept.ensures.kept c.if-is_kept.true }

pub returns-then-is_kept-clause-only : goal.returns-then-is_kept-clause-only
returns-then-is_kept-clause-only g c = only_none

pub returns-then-is_kept-clause-loads : goal.returns-then-is_kept-clause-loads
returns-then-is_kept-clause-loads g c = takes_kept refl

pub returns-in_default-clause-loads : goal.returns-in_default-clause-loads
returns-in_default-clause-loads g c = takes_kept refl

pub returns-in_default-found-clause-loads : goal.returns-in_default-found-clause-loads
returns-in_default-found-clause-loads g c = takes_kept refl

pub returns-clause-loads : goal.returns-clause-loads
returns-clause-loads g c = takes_fresh (sym c.is_kept.ensures.is ∙ c.if-is_kept.false) c.test_table.ensures.loads

pub returns-in_default-clause-only : goal.returns-in_default-clause-only
returns-in_default-clause-only g c = only_none

pub returns-in_default-found-clause-table_each : goal.returns-in_default-found-clause-table_each
returns-in_default-found-clause-table_each g c = λ f e. kept_unseated (rw c.in_default-found.is at c.in-Ok.ensures.none)

pub returns-in_default-found-clause-only : goal.returns-in_default-found-clause-only
returns-in_default-found-clause-only g c = only_none

pub test_table-requires-clause-seat : goal.test_table-requires-clause-seat
test_table-requires-clause-seat g c = let s = rw c.in-Some.is at c.in-Ok.ensures.seat in s.0

pub returns-clause-table_each : goal.returns-clause-table_each
returns-clause-table_each g c = on_ok_so c.test_table.result c.test_table.ensures.table_each (λ table f e. let s = rw c.in-Some.is at c.in-Ok.ensures.seat in kept_over s.1 (table f e))

pub returns-clause-stands : goal.returns-clause-stands
returns-clause-stands g c = on_ok_so c.test_table.result c.test_table.ensures.table_each (λ table. c.in-Ok.ensures.stands)
