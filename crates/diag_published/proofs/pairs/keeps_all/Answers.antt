use Rattle.std.proofs.lemmas.Bool.{false≢true}
use Rattle.diag_published.proofs.Pairing.{keeps_none, keeps_next, keeps_one}
use Rattle.diag_published.proofs.pairs.keeps_all.Goals as goal

pub taps-init : goal.taps-init
taps-init c = keeps_none c.args.facts.now c.args.line.0

pub taps-preserved : goal.taps-preserved
taps-preserved c = keeps_next c.args.facts.now c.args.taps.now c.taps.tap-index _ c.taps-test.true c.args.line.0 c.taps.invariant (c.keeps_meeting.ensures.0 c.if-not-keeps_meeting.false)

pub returns-then-not-keeps_meeting : goal.returns-then-not-keeps_meeting
returns-then-not-keeps_meeting c = (
  λ no. absurd (false≢true no),
  λ all. let is = c.keeps_meeting.ensures.1 (keeps_one c.args.facts.now c.args.taps.now c.taps.tap-index _ c.taps-test.true c.args.line.0 all) in let not = c.if-not-keeps_meeting.true in absurd (let no : ⊥ = cc (is, not) in no),
)
