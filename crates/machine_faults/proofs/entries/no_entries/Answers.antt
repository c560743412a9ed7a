use Rattle.machine_faults.proofs.Keeping.{lists_none}
use Rattle.machine_faults.proofs.entries.no_entries.Goals as goal

pub returns-clause-listed : goal.returns-clause-listed
returns-clause-listed c = lists_none c.new-6.result.items c.new-5.result.keys c.new-6.ensures.items c.new-5.ensures.empty
