use Rattle.diag_evidence.proofs.Vocabulary.{subst, sym, arith, IsLeadOf}
use Rattle.diag_evidence.proofs.Closing.{closes_more, crosses_below}
use Rattle.diag_evidence.proofs.leads.close_walks.Goals as goal

pub close_all-requires : goal.close_all-requires
close_all-requires c =
    let lead = subst (IsLeadOf c.args.config.now.config.shape) (sym c.index-leads-k.is) (c.requires c.leads.k c.index-leads-k.result (omega arith)) in
    rw (c.deref.ensures.value, c.leads.invariant.shape) (crosses_below lead)

pub leads-preserved : goal.leads-preserved
leads-preserved c = closes_more c.args.leads.now c.leads.k c.index-leads-k.result (omega arith) c.index-leads-k.is c.leads.invariant (rw c.deref.ensures.value at c.in_ok-close_all.ensures)
