use Rattle.machine_meaning.proofs.Pairs.{pairs_total, pairs_exact}
use Rattle.machine_faults.proofs.Keeping.{one_put}
use Rattle.machine_faults.proofs.entries.put_cell.Goals as goal

pub returns-clause-ok : goal.returns-clause-ok
returns-clause-ok c = one_put pairs_total pairs_exact c.args.cells.now.entries c.insert.new.self.entries (c.args.table, c.args.address) c.args.value c.in_ok-insert.ensures.updates.0
