use Rattle.place_plan.proofs.Vocabulary.{◌+◌, ℕ, sym, ap, ◌∙◌, count_by_more_yes, count_by_more_no, serves_any, serves_by}
use Rattle.place_plan.proofs.assign.count_served.Goals as goal
use Rattle.place_plan.proofs.assign.count_served.Goals.{then-serves_some, else-serves_some}

pub loop-line-preserved : goal.loop-line-preserved
loop-line-preserved c =
    let f = serves_any (serves_by c.args.defects.now c.args.asks.now) c.args.set.now in
    elim c.if-serves_some.branch [
      | then-serves_some w ↦ w.count-is ∙ ap (λ (z : ℕ). z + 1) c.loop-line.invariant ∙ sym (count_by_more_yes f c.args.lines.now c.loop-line.line-index 0 c.loop-line-test.true (sym c.serves_some.ensures ∙ w.if-serves_some.true))
      | else-serves_some w ↦ w.count-is ∙ c.loop-line.invariant ∙ sym (count_by_more_no f c.args.lines.now c.loop-line.line-index 0 c.loop-line-test.true (sym c.serves_some.ensures ∙ w.if-serves_some.false))
    ]
