use Rattle.machine_shape.proofs.Vocabulary.{◌<◌, ◌^◌, subst, arith, numbers_in, crosses_in}
use Rattle.machine_shape.proofs.{Running.taps_small, Weighing.own_fits}
use Rattle.machine_shape.proofs.tree.own_of.Goals as goal

pub taps_from-requires : goal.taps_from-requires
taps_from-requires c =
    let small : crosses_in c.args.levels.now < 2 ^ 32 = subst (λ k. numbers_in k c.args.levels.now < 2 ^ 32) c.in-Crosses.is (own_fits c.args.kind c.args.levels.now c.requires) in
    let t = taps_small c.args.levels.now c.requires.full in omega arith
