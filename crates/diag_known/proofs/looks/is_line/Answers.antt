use Rattle.diag_known.proofs.Crosswise.{line_is, line_not, line_of_none}
use Rattle.diag_known.proofs.looks.is_line.Goals as goal

pub returns-then-taps-eq0-clause-no : goal.returns-then-taps-eq0-clause-no
returns-then-taps-eq0-clause-no c = λ no. line_of_none c.args.shape.now (c.the_crosspoints_are_sound.ensures.crosses c.args.shape.now) c.args.node.0 c.args.w.0 c.taps.result c.taps.ensures c.if-taps-eq0.true

pub returns-in-Some-clause-yes : goal.returns-in-Some-clause-yes
returns-in-Some-clause-yes c = λ yes. line_is c.args.shape.now (c.the_crosspoints_are_sound.ensures.meetings c.args.shape.now) (c.each_wire_has_a_home.ensures c.args.shape.now) _ c.tap.result.0 c.args.w.0 c.in-Some.ensures.found

pub returns-in-None-clause-no : goal.returns-in-None-clause-no
returns-in-None-clause-no c = λ no.
    line_not c.args.shape.now (c.the_crosspoints_are_sound.ensures.taps c.args.shape.now) (c.the_crosspoints_are_sound.ensures.meetings c.args.shape.now) c.args.node.0 c.tap.result.0 c.args.w.0 c.taps.result
    c.requires.node c.taps.ensures c.if-taps-eq0.false c.tap.ensures.wire c.in-None.ensures.none
