use Rattle.rig_simulated.proofs.Vocabulary.{rules, ◌∙◌, ap, true, length, length-replicate}
use Rattle.rig_simulated.proofs.Tracking.{clear_all, driven_none}
use Rattle.rig_simulated.proofs.board.prepare.Goals as goal

pub returns-clause-prepared : goal.returns-clause-prepared
returns-clause-prepared c = record {
  closed = c.in_ok-classes.ensures.closed;
  knots = search rules;
  stuck = c.in_ok-stuck.ensures;
  pins = record {
    within = search rules;
    marks = search rules;
    last = search rules;
    few = search rules;
    before = search rules;
    drive = ap length c.in_ok-kept.ensures.drive ∙ length-replicate _ true ∙ search rules;
    levels = search rules;
    driven = driven_none _ _ _ _ (clear_all _ _ (c.in_ok-low_pins.ensures.items_if_clones_equal (search rules))) c.in_ok-kept.ensures.drive;
  };
  low_tables = search rules;
  ranks = search rules;
  tables_clear = clear_all _ _ (c.in_ok-low_tables.ensures.items_if_clones_equal (search rules));
  pulls = search rules;
  pulls_zero = search rules;
}
