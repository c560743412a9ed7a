use Rattle.std.proofs.Common.{arith}
use Rattle.machine_bench.proofs.Hitting.{hit_by_test}
use Rattle.machine_bench.proofs.hits.may_be_hit.Goals as goal

pub returns-in-Pin : goal.returns-in-Pin
returns-in-Pin c = hit_by_test c.args.shape.now c.args.wire.0 _ 20 c.in-Pin.position
    (c.the_numbering_is_sound.ensures.meanings c.args.shape.now) c.in-Pin.ensures (λ h. h, λ h. h)

pub returns-in-Line : goal.returns-in-Line
returns-in-Line c = hit_by_test c.args.shape.now c.args.wire.0 _ 20 c.in-Line.position
    (c.the_numbering_is_sound.ensures.meanings c.args.shape.now) c.in-Line.ensures (λ h. h, λ h. h)

pub returns-in-Port : goal.returns-in-Port
returns-in-Port c = hit_by_test c.args.shape.now c.args.wire.0 _ 20 c.in-Port.position
    (c.the_numbering_is_sound.ensures.meanings c.args.shape.now) c.in-Port.ensures (λ h. h, λ h. h)

pub returns-in-TablePin : goal.returns-in-TablePin
returns-in-TablePin c =
    let e = c.table_position.ensures in
    hit_by_test c.args.shape.now c.args.wire.0 _ 4 c.table_position.result
    (c.the_numbering_is_sound.ensures.meanings c.args.shape.now) c.in-TablePin.ensures (λ h. omega arith, λ h. omega arith)
