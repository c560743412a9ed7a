use Rattle.std.proofs.Common.{sym, ◌∙◌}
use Rattle.diag_check.proofs.{Checking.loads_tables, Checking.tables_if, Using.table_counts, Using.tables_within}
use Rattle.diag_check.proofs.check.look_at_tables.Goals as goal

pub test_tables-requires-clause-tables : goal.test_tables-requires-clause-tables
test_tables-requires-clause-tables g c = tables_within c.args.image.now c.config-config.result.now.config c.config-config.ensures.config c.tables_on.result.now c.tables_on.ensures c.config-config.ensures.right c.args.facts.now.shape (sym c.requires.image)

pub keeps_tables-requires : goal.keeps_tables-requires
keeps_tables-requires g c = record { shape = c.requires.image ∙ sym c.test_tables.ensures.advances.more.shape }

pub returns-in-Ok-clause-keeps : goal.returns-in-Ok-clause-keeps
returns-in-Ok-clause-keeps g c = c.keeps_tables.ensures.0

pub returns-in-Ok-clause-whole_each : goal.returns-in-Ok-clause-whole_each
returns-in-Ok-clause-whole_each g c = λ f e. tables_if _ c.args.facts.now c.test_tables.new.facts c.args.known.now.steps c.args.image.now c.tables_on.result.now c.keeps_tables.result
    (table_counts c.args.image.now c.config-config.result.now.config c.config-config.ensures.config c.tables_on.result.now c.tables_on.ensures) (c.in-Ok.ensures.tables_each f e) c.keeps_tables.ensures.1

pub returns-in-Ok-clause-loads : goal.returns-in-Ok-clause-loads
returns-in-Ok-clause-loads g c = λ used are. loads_tables c.args.facts.now c.args.image.now used c.tables_on.result.now _ _ (c.the_numbering_is_sound.ensures.numbered c.args.image.now.config.shape) c.config-config.ensures.right are
    (table_counts c.args.image.now c.config-config.result.now.config c.config-config.ensures.config c.tables_on.result.now c.tables_on.ensures) c.test_tables.ensures.loads

pub returns-in-Err-clause-loads : goal.returns-in-Err-clause-loads
returns-in-Err-clause-loads g c = λ used are. loads_tables c.args.facts.now c.args.image.now used c.tables_on.result.now _ _ (c.the_numbering_is_sound.ensures.numbered c.args.image.now.config.shape) c.config-config.ensures.right are
    (table_counts c.args.image.now c.config-config.result.now.config c.config-config.ensures.config c.tables_on.result.now c.tables_on.ensures) c.test_tables.ensures.loads

pub returns-in-Ok-clause-set : goal.returns-in-Ok-clause-set
returns-in-Ok-clause-set g c = c.test_tables.ensures.only.apart

pub returns-in-Err-clause-set : goal.returns-in-Err-clause-set
returns-in-Err-clause-set g c = c.test_tables.ensures.only.apart
