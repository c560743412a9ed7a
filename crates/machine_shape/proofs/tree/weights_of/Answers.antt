use Rattle.machine_shape.proofs.Vocabulary.{sym, subst, Fits}
use Rattle.machine_shape.proofs.Weighing.{fits_drop}
use Rattle.machine_shape.proofs.tree.weights_of.Goals as goal

pub size_of-hextants-requires-clause-fits : goal.size_of-hextants-requires-clause-fits
size_of-hextants-requires-clause-fits c = subst (Fits c.args.kind) (sym c.below-2.ensures) (fits_drop c.args.kind 3 c.args.levels c.requires)

pub size_of-chips-requires-clause-fits : goal.size_of-chips-requires-clause-fits
size_of-chips-requires-clause-fits c = subst (Fits c.args.kind) (sym c.below-3.ensures) (fits_drop c.args.kind 2 c.args.levels c.requires)

pub size_of-modules-requires-clause-fits : goal.size_of-modules-requires-clause-fits
size_of-modules-requires-clause-fits c = subst (Fits c.args.kind) (sym c.below-4.ensures) (fits_drop c.args.kind 1 c.args.levels c.requires)

pub own_of-requires-2 : goal.own_of-requires-2
own_of-requires-2 c = subst (Fits c.args.kind) (sym c.below-6.ensures) (fits_drop c.args.kind 1 c.args.levels c.requires)

pub own_of-requires-3 : goal.own_of-requires-3
own_of-requires-3 c = subst (Fits c.args.kind) (sym c.below-7.ensures) (fits_drop c.args.kind 2 c.args.levels c.requires)

pub own_of-requires-4 : goal.own_of-requires-4
own_of-requires-4 c = subst (Fits c.args.kind) (sym c.below-8.ensures) (fits_drop c.args.kind 3 c.args.levels c.requires)
