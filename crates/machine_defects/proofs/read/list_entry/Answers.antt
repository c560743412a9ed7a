use Rattle.machine_defects.proofs.Entries.{entries_added}
use Rattle.machine_defects.proofs.read.list_entry.Goals as goal

pub returns-clause-added : goal.returns-clause-added
returns-clause-added c = entries_added c.args.list.now c.put_entry.new.list c.args.e c.requires.of c.requires.beyond c.put_entry.ensures
