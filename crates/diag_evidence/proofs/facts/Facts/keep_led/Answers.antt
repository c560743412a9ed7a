use Rattle.std.proofs.Common.{◌≡◌, ◌<◌, ◌+◌, true, false, Some, length, get_or, take, subst, sym, ◌∙◌, arith}
use Rattle.diag_evidence.proofs.Vocabulary.{Gains, these_crosses, led_over, parts}
use Rattle.diag_evidence.proofs.Led.{led_on, led_not}
use Rattle.diag_evidence.proofs.facts.Facts.keep_led.Goals as goal
use Rattle.diag_evidence.proofs.facts.Facts.keep_led.Goals.{then-not-parts, else-not-parts}

pub leads-preserved : goal.leads-preserved
leads-preserved c =
    let bit : parts c.args.reads.now.rows c.index-leads-k.result.from c.index-leads-k.result.to ≡ c.parts.result = sym c.parts.ensures in
    record {
      gains = elim c.if-not-parts.branch [
        | then-not-parts w ↦ subst (λ s. Gains (these_crosses (led_over c.args.reads.now.rows (take (c.leads.k + 1) c.args.leads.now))) c.args.self.now s) (sym w.self-is)
            (led_on c.args.reads.now.rows c.args.leads.now c.leads.k c.index-leads-k.result (omega arith) c.index-leads-k.is (bit ∙ w.if-not-parts.true) c.leads.invariant.gains w.keep_crosses.ensures)
        | else-not-parts w ↦ subst (λ s. Gains (these_crosses (led_over c.args.reads.now.rows (take (c.leads.k + 1) c.args.leads.now))) c.args.self.now s) (sym w.self-is)
            (led_not c.args.reads.now.rows c.args.leads.now c.leads.k c.index-leads-k.result (omega arith) c.index-leads-k.is (bit ∙ w.if-not-parts.false) c.leads.invariant.gains)
      ];
    }
