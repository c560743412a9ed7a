use Rattle.std.proofs.Common.{◌+◌, refl}
use Rattle.diag_machine.proofs.{Stepping.tables_within, Sweeping.left_count, Sweeping.left_kept, Sweeping.left_out}
use Rattle.diag_machine.proofs.whole.tables_left.Goals as goal

pub tables-preserved : goal.tables-preserved
tables-preserved c =
    let old = c.tables.invariant in
    let more = c.in_ok-push.ensures.items in
    record {
      count = left_count c.tables.tables.items (record { 0 = c.tables.t }) c.push.new.self.items c.tables.t more old.count;
      within = tables_within c.tables.tables.items (record { 0 = c.tables.t }) c.push.new.self.items more refl _ old.within (rw c.tables-t-end.ensures.tables at c.tables-test.true);
      each = left_kept c.args.wrong.now c.tables.tables.items c.tables.t (record { 0 = c.tables.t }) c.push.new.self.items refl more old.each;
    }
