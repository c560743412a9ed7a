use Rattle.std.proofs.Common.{arith}
use Rattle.machine_defects.proofs.Owning.{own_more}
use Rattle.machine_defects.proofs.kept.own_pins.Goals as goal

pub pins-preserved : goal.pins-preserved
pins-preserved c = own_more c.args.shape.now (c.the_numbering_is_sound.ensures.numbered c.args.shape.now) c.pins.owners c.args.t.0 c.pins.k _ c.requires.table (omega (arith, c.pins-test.true)) c.pins.invariant c.pin_of.ensures.wire c.pin_of.ensures.within
