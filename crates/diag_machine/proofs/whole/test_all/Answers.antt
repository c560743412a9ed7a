use Rattle.diag_machine.proofs.Vocabulary.{ap, subst, ◌≤◌, length, ℕ, on_ok_weaker, tables_of}
use Rattle.diag_machine.proofs.Sweeping.{tables_left_if, tables_left_most}
use Rattle.diag_machine.proofs.whole.test_all.Goals as goal

pub returns-clause-loads : goal.returns-clause-loads
returns-clause-loads g c = tables_left_most c.args.facts.now c.in-Ok.tables.items _ (subst (λ (n : ℕ). length c.in-Ok.tables.items ≤ n) (ap tables_of c.shape.ensures) c.in-Ok.ensures.count) (rw c.deref.ensures.value at c.test_tables.ensures.loads)

pub returns-clause-tables_each : goal.returns-clause-tables_each
returns-clause-tables_each g c = on_ok_weaker c.test_tables.result (λ kept f e. tables_left_if c.shape.ensures (c.requires.right_each f (c.test_tables.ensures.advances.narrows f e)) c.in-Ok.ensures.each (kept f e)) (rw c.deref.ensures.value at c.test_tables.ensures.tables_each)
