use Rattle.machine_defects.proofs.Vocabulary.{◌∙◌, sym, ap, subst, Bool, List, ◌-◌, AreRight, listed_by, marks_in}
use Rattle.machine_defects.proofs.Putting.{table_as_it_is, table_counted, table_right, table_listed}
use Rattle.machine_defects.proofs.kept.put_table.Goals as goal

pub returns-then-has-clause-listed : goal.returns-then-has-clause-listed
returns-then-has-clause-listed c = ap (λ d. record { shape = c.args.kept.now.shape; list = d }) (sym (table_as_it_is (marks_in c.args.kept.now) c.requires.kept c.args.t.0 c.requires.within (sym c.has.ensures ∙ c.if-has.true)))

pub overflow_sub-kept : goal.overflow_sub-kept
overflow_sub-kept c = table_counted (marks_in c.args.kept.now) c.requires.kept c.args.t.0 c.requires.within (sym c.has.ensures ∙ c.if-has.false)

pub returns-clause-kept : goal.returns-clause-kept
returns-clause-kept c = subst (λ (p : List Bool × List Bool). AreRight (record (marks_in c.args.kept.now) { tables = p.0; lost = p.1; free_tables = c.args.kept.now.free_tables - 1 })) (λ i. (sym c.insert.ensures i, sym c.insert-2.ensures i)) (table_right (marks_in c.args.kept.now) c.requires.kept c.args.t.0 c.requires.within (sym c.has.ensures ∙ c.if-has.false))

pub returns-clause-listed : goal.returns-clause-listed
returns-clause-listed c = ap (λ ts. listed_by (record (marks_in c.args.kept.now) { tables = ts })) c.insert.ensures ∙ table_listed (marks_in c.args.kept.now) c.requires.kept c.args.t.0 c.requires.within (sym c.has.ensures ∙ c.if-has.false)
