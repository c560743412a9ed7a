use Rattle.rig_simulated.proofs.Vocabulary.{rules, ◌≡◌, sym, subst, with_items_is, with_items}
use Rattle.rig_simulated.proofs.Undoing.{none_closed}
use Rattle.rig_simulated.proofs.base.classes_of.Goals as goal

pub returns-clause-closed : goal.returns-clause-closed
returns-clause-closed c =
    none_closed c.args.faults.now.shape c.args.faults.now.faults c.new.result.items _ c.close_stuck.new.knots c.new.ensures.items
    (with_items_is (with_items c.in_ok-knots.knots c.bridge_all.new.knots) c.close_stuck.new.knots (search rules)) c.close_stuck.ensures
