use Rattle.diag_evidence.proofs.Vocabulary.{◌≡◌, ◌≢◌, Some, true, false, sym, ap, ◌∙◌, arith, ◌==◌, nat_tests}
use Rattle.diag_evidence.proofs.KeptLemmas.{pair_set, pair_tried, pair_other, pair_none, tried_none, tried_other}
use Rattle.diag_evidence.proofs.facts.Facts.keeps_pair.Goals as goal

pub returns-then-has_both : goal.returns-then-has_both
returns-then-has_both c = rw (← c.self.view_is) (pair_set _ c.args.a.0 c.args.b.0 c.requires.differ (sym c.has_both.ensures ∙ c.if-has_both.true))

pub returns-in_default : goal.returns-in_default
returns-in_default c = rw (← c.self.view_is) (pair_none _ c.args.a.0 c.args.b.0 (sym c.has_both.ensures ∙ c.if-has_both.false) (tried_none _ c.args.a.0 c.in_default.is) (tried_none _ c.args.b.0 c.in_default.is))

pub returns-then-tried-a : goal.returns-then-tried-a
returns-then-tried-a c =
    rw (← c.self.view_is) (c.has.ensures ∙ pair_tried _ c.args.a.0 c.args.b.0 c.requires.differ (sym c.has_both.ensures ∙ c.if-has_both.false) (c.in-Some.is ∙ ap Some c.if-tried-a.true))

pub returns-then-tried-b : goal.returns-then-tried-b
returns-then-tried-b c =
    rw (← c.self.view_is) (c.has-then-tried-b.ensures ∙ pair_other _ c.args.a.0 c.args.b.0 c.requires.differ (sym c.has_both.ensures ∙ c.if-has_both.false) (c.in-Some.is ∙ ap Some c.if-tried-b.true))

pub returns : goal.returns
returns c =
    let first : (c.in-Some.tried == c.args.a.0) ≡ false = (let n = c.if-tried-a.false in grind (arith, nat_tests, n)) in
    let second : (c.in-Some.tried == c.args.b.0) ≡ false = (let n = c.if-tried-b.false in grind (arith, nat_tests, n)) in
    rw (← c.self.view_is) (pair_none _ c.args.a.0 c.args.b.0 (sym c.has_both.ensures ∙ c.if-has_both.false) (tried_other _ c.in-Some.tried c.args.a.0 c.in-Some.is first) (tried_other _ c.in-Some.tried c.args.b.0 c.in-Some.is second))
