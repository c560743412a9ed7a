use Rattle.std.proofs.Common.{sym, ◌∙◌, inl, inr, arith}
use Rattle.diag_check.proofs.Involving.{rises_pass, rises_next}
use Rattle.diag_check.proofs.marks.mark_parent.Goals as goal

pub returns-then-not-has-clause-rises : goal.returns-then-not-has-clause-rises
returns-then-not-has-clause-rises c = λ seeds r. rises_pass c.args.shape.now seeds c.args.node.0 r (inl (sym c.has.ensures ∙ c.if-not-has.true))

pub returns-in_default-clause-rises : goal.returns-in_default-clause-rises
returns-in_default-clause-rises c = λ seeds r. rises_pass c.args.shape.now seeds c.args.node.0 r (inr c.in_default.ensures.none.0)

pub returns-clause-rises : goal.returns-clause-rises
returns-clause-rises c = λ seeds r. rw c.insert.ensures (rises_next c.args.shape.now seeds c.args.node.0 c.in-Some.parent.0 (c.the_numbering_is_sound.ensures.parents c.args.shape.now) r
    (sym c.has.ensures ∙ c.if-not-has.false) c.in-Some.ensures.some.0 (let a = c.in-Some.ensures.some.1 in let b = c.requires.nodes in omega (arith, a, b)))
