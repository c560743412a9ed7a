use Rattle.machine_faults.proofs.Keeping.{lists_more}
use Rattle.machine_faults.proofs.entries.put_bridge.Goals as goal

pub returns-in-Ok-clause-listed : goal.returns-in-Ok-clause-listed
returns-in-Ok-clause-listed c = rw (c.in-Ok.ensures.ok, c.in_ok-push.ensures.items) (lists_more c.args.bridges.now.items _ (record { 0 = record { 0 = c.args.low }; 1 = record { 0 = c.args.high } }) c.requires.listed c.requires.new)
