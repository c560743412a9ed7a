use Rattle.rig_simulated.proofs.Pulling.{marks_of_outputs, counts_of_outputs}
use Rattle.rig_simulated.proofs.events.settle_listed.Goals as goal

pub clear_pulls-requires-clause-only : goal.clear_pulls-requires-clause-only
clear_pulls-requires-clause-only c = counts_of_outputs c.tick_listed_times-busy.new.gates c.tick_listed_times-busy.new.events.pulls.items c.tick_listed_times-busy.new.low_tables c.tick_listed_times-busy.ensures.sound.counted

pub clear_tables-requires-clause-only : goal.clear_tables-requires-clause-only
clear_tables-requires-clause-only c = marks_of_outputs c.tick_listed_times-busy.new.gates c.tick_listed_times-busy.new.events.pulls.items c.tick_listed_times-busy.new.low_tables c.tick_listed_times-busy.ensures.sound.counted
