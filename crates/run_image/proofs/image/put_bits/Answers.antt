use Rattle.std.proofs.Common.{◌+◌, ◌<◌, length, arith, refl}
use Rattle.run_image.proofs.Together.{put-bit}
use Rattle.run_image.proofs.image.put_bits.Goals as goal

pub bits-preserved : goal.bits-preserved
bits-preserved c =
    let same = c.bits.invariant.1 in
    let room = c.requires in
    let in_bits : c.bits.k < length c.args.bits.now = omega arith in
    let in_all : c.args.from + c.bits.k < length c.bits.all = omega (arith, same, room, in_bits) in
    put-bit c.args.from c.bits.k c.bits.all c.args.all.now c.args.bits.now _ in_all in_bits refl c.bits.invariant
