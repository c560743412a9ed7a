use Rattle.std.proofs.Common.{◌∙◌, sym}
use Rattle.diag_sweep.proofs.fits.is_on.Goals as goal

pub is_new-requires : goal.is_new-requires
is_new-requires c = rw c.requires.seen ((c.shape-shape.ensures.forest.led c.pin_of.result.0 c.in-Some.output (sym c.pin_of-2.ensures ∙ c.in-Some.is)).below)
