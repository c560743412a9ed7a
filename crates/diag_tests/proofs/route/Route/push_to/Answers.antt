use Rattle.diag_tests.proofs.Longer.{an_end, ends_back, end_is_other, over_extends, over_is}
use Rattle.diag_tests.proofs.route.Route.push_to.Goals as goal

pub returns-clause-longer : goal.returns-clause-longer
returns-clause-longer c =
    let m = c.args.shape.now in
    let r = c.args.self.now in
    rw c.in_ok-add.ensures.longer (over_extends m c.args.c.0 c.args.wire.0 r (an_end m c.args.c.0 r.end c.args.wire.0 c.requires.at) (end_is_other m c.args.c.0 r.end c.args.wire.0 c.requires.at))

pub returns-clause-right : goal.returns-clause-right
returns-clause-right c =
    let m = c.args.shape.now in
    let r = c.args.self.now in
    let within = (c.the_numbering_is_sound.ensures.numbered m).ends c.args.c.0 c.args.wire.0 r.end c.requires.cross (ends_back c.requires.at) in
    rw c.in_ok-add.ensures.longer (over_is m c.args.c.0 c.args.wire.0 r c.requires.route c.requires.cross within (an_end m c.args.c.0 r.end c.args.wire.0 c.requires.at) (end_is_other m c.args.c.0 r.end c.args.wire.0 c.requires.at))
