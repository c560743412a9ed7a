use Rattle.diag_published.proofs.Vocabulary.{refl, KeepsAll, wire_numbers}
use Rattle.diag_published.proofs.Listing.{some_none, some_pushed, some_same}
use Rattle.diag_published.proofs.pairs.open_lines.Goals as goal

pub lines-init : goal.lines-init
lines-init c = rw c.new-those.ensures.items (some_none (KeepsAll c.args.facts.now (wire_numbers c.args.taps.now)))

pub lines-preserved-then-not-keeps_all : goal.lines-preserved-then-not-keeps_all
lines-preserved-then-not-keeps_all c = some_same (KeepsAll c.args.facts.now (wire_numbers c.args.taps.now)) c.args.lines.now c.lines.line-index _ c.lines-test.true c.lines.those.items c.lines.invariant
    (λ all. let is = c.keeps_all.ensures.1 all in let not = c.if-not-keeps_all.true in cc (is, not))

pub lines-preserved : goal.lines-preserved
lines-preserved c = some_pushed (KeepsAll c.args.facts.now (wire_numbers c.args.taps.now)) c.args.lines.now c.lines.line-index _ c.lines-test.true c.lines.those.items c.in_ok-push.ensures.items c.lines.invariant refl
    (c.keeps_all.ensures.0 c.if-not-keeps_all.false)
