use Rattle.std.proofs.Common.{sym, ◌∙◌}
use Rattle.diag_growth.proofs.Searching.{meets_none, meets_lost, meets_kept}
use Rattle.diag_growth.proofs.search.meeting.Goals as goal

pub returns-in_default-clause-none : goal.returns-in_default-clause-none
returns-in_default-clause-none c = meets_none c.args.facts.now c.args.tap.0 c.args.line.0 c.shape.ensures c.in_default.ensures.none

pub returns-then-not-keeps_cross-clause-none : goal.returns-then-not-keeps_cross-clause-none
returns-then-not-keeps_cross-clause-none c =
    meets_lost c.args.facts.now c.args.tap.0 c.args.line.0 c.in-Some.c.0 c.shape.ensures (c.the_crosspoints_are_sound.ensures.crosses c.args.facts.now.shape) c.in-Some.ensures.found (sym c.keeps_cross.ensures ∙ c.if-not-keeps_cross.true)

pub returns-clause-meets : goal.returns-clause-meets
returns-clause-meets c = meets_kept c.args.facts.now c.args.tap.0 c.args.line.0 c.in-Some.c.0 c.shape.ensures c.in-Some.ensures.found (sym c.keeps_cross.ensures ∙ c.if-not-keeps_cross.false)
