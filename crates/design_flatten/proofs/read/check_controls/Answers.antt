use Rattle.design_flatten.proofs.Vocabulary.{Some, subst, controls_of, IsControlAnswer, lines_of}
use Rattle.design_flatten.proofs.{ClockLemmas.answer_is, ReadLemmas.not_other}
use Rattle.design_flatten.proofs.read.check_controls.Goals as goal

pub returns-in-None-clause-ok : goal.returns-in-None-clause-ok
returns-in-None-clause-ok c =
    let s = c.args.found.now in
    let controls = controls_of c.args.models.now (lines_of c.args.models.now s) in
    subst (IsControlAnswer controls) c.in-None.is (answer_is controls s.sink.clocks.first s.sink.clocks.other c.requires.kept.sink.clocks.firsts)

pub returns-in-Some-clause-refused : goal.returns-in-Some-clause-refused
returns-in-Some-clause-refused c =
    let s = c.args.found.now in
    let lines = lines_of c.args.models.now s in
    let controls = controls_of c.args.models.now lines in
    let answer : IsControlAnswer controls (Some c.in-Some.line) = subst (IsControlAnswer controls) c.in-Some.is (answer_is controls s.sink.clocks.first s.sink.clocks.other c.requires.kept.sink.clocks.firsts) in
    (c.requires.rules, (lines, c.requires.within, answer))

pub returns-in-Some-clause-only : goal.returns-in-Some-clause-only
returns-in-Some-clause-only c one =
    let s = c.args.found.now in
    let controls = controls_of c.args.models.now (lines_of c.args.models.now s) in
    let answer : IsControlAnswer controls (Some c.in-Some.line) = subst (IsControlAnswer controls) c.in-Some.is (answer_is controls s.sink.clocks.first s.sink.clocks.other c.requires.kept.sink.clocks.firsts) in
    absurd (not_other controls c.in-Some.line one answer)
