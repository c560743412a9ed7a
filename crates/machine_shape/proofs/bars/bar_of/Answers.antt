use Rattle.machine_shape.proofs.Vocabulary.{length, drop, sym, ap, ◌∙◌, arith, levels_of, Levels, next, size, wires_in}
use Rattle.machine_shape.specs.declared.way.Kind.TheVariants.{Wires}
use Rattle.machine_shape.proofs.Barred.{spot_short, bar_at, fits_bar, wires-size}
use Rattle.machine_shape.proofs.{Sites.small_of, Weighing.levels_fit, Weighing.start_here, Weighing.small_here, Weighing.each_here}
use Rattle.machine_shape.proofs.bars.bar_of.Goals as goal

pub weights_of-weights-requires : goal.weights_of-weights-requires
weights_of-weights-requires c = levels_fit c.args.shape Wires c.levels_of-levels.result c.levels_of-levels.ensures.levels

pub start_of-first-requires : goal.start_of-first-requires
start_of-first-requires c = small_here wires_in c.weights_of-weights.result c.levels_of-levels.result (levels_of c.args.shape) c.weights_of-weights.ensures c.levels_of-levels.ensures.levels c.args.way.now c.requires (small_of c.args.shape Wires)

pub below-requires : goal.below-requires
below-requires c = let s = spot_short c.requires in let e = ap length c.levels_of-levels.ensures.levels in omega arith

pub bar_from-requires : goal.bar_from-requires
bar_from-requires c =
    c.each_at.ensures
    ∙ each_here c.weights_of-weights.result c.levels_of-levels.result (levels_of c.args.shape) c.weights_of-weights.ensures c.levels_of-levels.ensures.levels c.args.way.now c.requires
    ∙ ap (λ (ls : Levels). size wires_in (next ls)) (sym (c.below.ensures ∙ ap (drop (length c.args.way.now)) c.levels_of-levels.ensures.levels))

pub returns-clause-bar : goal.returns-clause-bar
returns-clause-bar c = bar_at (levels_of c.args.shape) _ c.args.way.now _ _ c.requires (c.below.ensures ∙ ap (drop (length c.args.way.now)) c.levels_of-levels.ensures.levels)
    (c.start_of-first.ensures ∙ start_here wires_in c.weights_of-weights.result c.levels_of-levels.result (levels_of c.args.shape) c.weights_of-weights.ensures c.levels_of-levels.ensures.levels c.args.way.now)
    c.bar_from.ensures

pub returns-clause-fits : goal.returns-clause-fits
returns-clause-fits c = fits_bar (levels_of c.args.shape) c.args.way.now _ _ (wires-size c.args.shape) c.requires (returns-clause-bar c)
