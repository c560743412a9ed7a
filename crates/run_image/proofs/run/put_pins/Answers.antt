use Rattle.run_image.proofs.Vocabulary.{◌≡◌, ◌+◌, ◌<◌, length, get_or, true, slice_index_or, arith, gets}
use Rattle.run_image.proofs.Together.{put-read}
use Rattle.run_image.proofs.run.put_pins.Goals as goal

pub places-preserved : goal.places-preserved
places-preserved c =
    let same = c.places.invariant.1 in
    let room = c.requires.room in
    let in_pins : c.places.k < length c.args.pins.now = omega arith in
    let in_out : c.args.from + c.places.k < length c.places.out = omega (arith, same, room, in_pins) in
    let value : c.get.result ≡ slice_index_or c.args.read.now (get_or c.args.pins.now c.places.k 0) true = grind (arith, gets, c.get.ensures) in
    put-read c.args.from c.places.k c.places.out c.args.out.now c.args.read.now c.args.pins.now c.get.result in_out in_pins value c.places.invariant
