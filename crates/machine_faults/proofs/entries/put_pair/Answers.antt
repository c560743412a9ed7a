use Rattle.machine_meaning.proofs.Pairs.{pairs_total, pairs_exact}
use Rattle.machine_faults.proofs.Keeping.{one_added}
use Rattle.machine_faults.proofs.entries.put_pair.Goals as goal

pub returns-clause-ok : goal.returns-clause-ok
returns-clause-ok c = one_added pairs_total pairs_exact c.args.pairs.now.keys c.insert.new.self.keys (c.args.low, c.args.high) c.in_ok-insert.ensures.updates.0
