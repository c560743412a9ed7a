use Rattle.diag_tests.proofs.Vocabulary.{◌∙◌, ap, other_end}
use Rattle.diag_tests.proofs.Longer.{over_is, over_extends}
use Rattle.diag_tests.proofs.route.Route.push.Goals as goal

pub returns-clause-longer : goal.returns-clause-longer
returns-clause-longer c =
    let other = c.other_wire-wire.ensures.other ∙ ap (other_end c.args.shape.now c.args.c.0) c.end.ensures in
    rw c.in_ok-add.ensures.longer (over_extends c.args.shape.now c.args.c.0 c.other_wire-wire.result.0 c.args.self.now c.requires.at other)

pub returns-clause-right : goal.returns-clause-right
returns-clause-right c =
    let other = c.other_wire-wire.ensures.other ∙ ap (other_end c.args.shape.now c.args.c.0) c.end.ensures in
    rw c.in_ok-add.ensures.longer (over_is c.args.shape.now c.args.c.0 c.other_wire-wire.result.0 c.args.self.now c.requires.route c.requires.cross c.other_wire-wire.ensures.within c.requires.at other)
