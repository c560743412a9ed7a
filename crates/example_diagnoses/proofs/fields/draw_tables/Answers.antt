use Rattle.example_diagnoses.proofs.Within.{one_more}
use Rattle.example_diagnoses.proofs.fields.draw_tables.Goals as goal

pub tables-preserved : goal.tables-preserved
tables-preserved c = one_more c.args.len c.tables.tables.items (record { 0 = c.tables.t }) c.push.new.self.items c.in_ok-push.ensures.items
    c.tables-test.true c.tables.invariant
