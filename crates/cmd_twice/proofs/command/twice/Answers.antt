use Rattle.run_image.proofs.Headlines.{begins-done}
use Rattle.cmd_twice.proofs.{TwiceLaws.words, TwiceLaws.twice-lawful, Headlines.done-twice}
use Rattle.cmd_twice.proofs.command.twice.Goals as goal

pub returns-clause-lawful : goal.returns-clause-lawful
returns-clause-lawful g c =
    let room = c.in_order_plans_are_decided.ensures.never_both in
    let sure = c.standing_parts_are_room.ensures.room in
    let networks = c.plain_networks_have_the_rows.ensures.network in
    twice-lawful c.args.machine.now c.args.name.now c.args.design.now c.args.vectors.now room sure networks (record {
      names = c.names_are_one_to_one.ensures;
      crosses = c.the_crosspoints_are_sound.ensures.crosses;
      numbered = c.the_numbering_is_sound.ensures.numbered;
    })

pub returns-clause-listed : goal.returns-clause-listed
returns-clause-listed g c =
    let w = words c.args.machine.now c.args.name.now c.args.design.now c.args.vectors.now in
    begins-done w _ _ c.work.result c.work.ensures.does.written

pub returns-clause-compared : goal.returns-clause-compared
returns-clause-compared g c =
    let e = c.work.ensures.does in
    (done-twice c.args.machine.now c.args.name.now c.args.design.now c.args.vectors.now _ _ c.work.result e.asked e.written).0

pub returns-clause-room : goal.returns-clause-room
returns-clause-room g c =
    let e = c.work.ensures.does in
    (done-twice c.args.machine.now c.args.name.now c.args.design.now c.args.vectors.now _ _ c.work.result e.asked e.written).1
