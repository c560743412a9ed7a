use Rattle.std.proofs.Common.{◌≡◌, ◌<◌, ◌∙◌, sym, arith}
use Rattle.diag_evidence.proofs.Footing.{pin_below}
use Rattle.diag_evidence.proofs.swinging.mark_swinging.Goals as goal

pub swings-requires : goal.swings-requires
swings-requires c =
    let b = pin_below c.args.forest.now c.wires.w c.in-Some.pin c.shape.ensures.forest (sym c.pin_of.ensures ∙ c.in-Some.is) in
    let e = c.requires.reads in omega (arith, b, e)
