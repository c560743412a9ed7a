use Rattle.rig_simulated.proofs.Vocabulary.{◌∙◌, length, sym, refl, tables_of, level_at, ticked}
use Rattle.rig_simulated.proofs.Ticking.{stepped_outputs, stepped_fit, stepped_within, ticked_fits}
use Rattle.rig_simulated.proofs.cycle.tick.Goals as goal

pub clear_tables-requires-clause-fits : goal.clear_tables-requires-clause-fits
clear_tables-requires-clause-fits c =
    stepped_within (ticked c.args.frame.now.faults.now.faults (level_at c.args.frame.now.knots.now c.args.frame.now.low_pins.now c.mark_tables.new.low)) (λ x. refl) c.args.gates.now (tables_of c.args.frame.now.faults.now.shape) (length c.args.frame.now.knots.now) (ticked_fits c.args.frame.now.faults.now.faults (level_at c.args.frame.now.knots.now c.args.frame.now.low_pins.now c.mark_tables.new.low) _ _) c.requires.fits c.tick_all-changed.ensures.next (sym (c.mark_tables.ensures.len ∙ c.requires.tables))

pub clear_tables-requires-clause-only : goal.clear_tables-requires-clause-only
clear_tables-requires-clause-only c = stepped_outputs (ticked c.args.frame.now.faults.now.faults (level_at c.args.frame.now.knots.now c.args.frame.now.low_pins.now c.mark_tables.new.low)) (λ x. refl) c.args.gates.now c.requires.clear c.mark_tables.ensures c.tick_all-changed.ensures.next

pub returns-clause-fits : goal.returns-clause-fits
returns-clause-fits c = stepped_fit (ticked c.args.frame.now.faults.now.faults (level_at c.args.frame.now.knots.now c.args.frame.now.low_pins.now c.mark_tables.new.low)) (λ x. refl) c.args.gates.now (tables_of c.args.frame.now.faults.now.shape) (length c.args.frame.now.knots.now) (ticked_fits c.args.frame.now.faults.now.faults (level_at c.args.frame.now.knots.now c.args.frame.now.low_pins.now c.mark_tables.new.low) _ _) c.requires.fits c.tick_all-changed.ensures.next

pub returns-clause-tick : goal.returns-clause-tick
returns-clause-tick c = record { clear = c.args.low_tables.now; is_clear = c.requires.clear; marks = c.mark_tables.new.low; marked = c.mark_tables.ensures; next = c.tick_all-changed.ensures.next }
