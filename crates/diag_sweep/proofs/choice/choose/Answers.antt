use Rattle.diag_evidence.proofs.Keeping.{but_cross}
use Rattle.diag_sweep.proofs.Chosen.{but_itself, but_unfit, worth_less, worth_none, worth_paid}
use Rattle.diag_sweep.proofs.Cohering.{but_pairs_given, but_pairs_goes, but_pairs_itself}
use Rattle.diag_sweep.proofs.choice.choose.Goals as goal

pub returns-in_default-clause-progress : goal.returns-in_default-clause-progress
returns-in_default-clause-progress g c = but_pairs_itself _ c.requires.coherent

pub returns-in_err-tell_all-clause-progress : goal.returns-in_err-tell_all-clause-progress
returns-in_err-tell_all-clause-progress g c = but_pairs_goes c.tell_all.ensures.goes c.tell_all.ensures.advances

pub returns-in-Ok-give_way-clause-progress : goal.returns-in-Ok-give_way-clause-progress
returns-in-Ok-give_way-clause-progress g c = let way = c.give_way.ensures in but_pairs_given c.tell_all.ensures.goes c.tell_all.ensures.advances way.coherent way.but way.explained way.right

pub returns-in-Err-clause-progress : goal.returns-in-Err-clause-progress
returns-in-Err-clause-progress g c = let way = c.give_way.ensures in but_pairs_given c.tell_all.ensures.goes c.tell_all.ensures.advances way.coherent way.but way.explained way.right

pub returns-in_err-tell_all-clause-pays : goal.returns-in_err-tell_all-clause-pays
returns-in_err-tell_all-clause-pays g c = worth_none _ c.open_purse.new.self.left c.tell_all.ensures.goes.hand (c.tell_all.ensures.goes.funded _ c.in-Ok.ensures.funded) c.open_purse.ensures.left

pub returns-in-Ok-give_way-clause-pays : goal.returns-in-Ok-give_way-clause-pays
returns-in-Ok-give_way-clause-pays g c = worth_less c.tell_all.new.facts c.give_way.new.knowledge.facts c.tell_all.new.bad c.give_way.new.knowledge.marks c.args.field.now _ c.close_purse.new.self.left (but_cross _ c.give_way.ensures.but) c.give_way.ensures.stuck
    (worth_paid _ c.close_purse.new.self.left c.tell_all.ensures.goes.hand (c.tell_all.ensures.goes.funded _ c.in-Ok.ensures.funded) c.close_purse.ensures.left)

pub returns-in-Err-clause-pays : goal.returns-in-Err-clause-pays
returns-in-Err-clause-pays g c = worth_less c.tell_all.new.facts c.give_way.new.knowledge.facts c.tell_all.new.bad c.give_way.new.knowledge.marks c.args.field.now _ c.close_purse.new.self.left (but_cross _ c.give_way.ensures.but) c.give_way.ensures.stuck
    (worth_paid _ c.close_purse.new.self.left c.tell_all.ensures.goes.hand (c.tell_all.ensures.goes.funded _ c.in-Ok.ensures.funded) c.close_purse.ensures.left)

pub returns-in-Ok-give_way-clause-marked : goal.returns-in-Ok-give_way-clause-marked
returns-in-Ok-give_way-clause-marked g c = let way = c.give_way.ensures in but_unfit _ c.tell_all.new.bad c.give_way.new.knowledge.marks c.tell_all.ensures.goes.marks way.stuck way.unclear way.wrong way.unfit

pub returns-in-Err-clause-marked : goal.returns-in-Err-clause-marked
returns-in-Err-clause-marked g c = let way = c.give_way.ensures in but_unfit _ c.tell_all.new.bad c.give_way.new.knowledge.marks c.tell_all.ensures.goes.marks way.stuck way.unclear way.wrong way.unfit

pub returns-in_err-tell_all-clause-marked : goal.returns-in_err-tell_all-clause-marked
returns-in_err-tell_all-clause-marked g c = but_itself _ _ c.tell_all.ensures.goes.marks
