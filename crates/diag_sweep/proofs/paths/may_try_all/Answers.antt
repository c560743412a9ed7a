use Rattle.diag_sweep.proofs.Vocabulary.{refl, arith, false≢true, crosses_along, MayTry}
use Rattle.diag_sweep.proofs.Coursing.{each_all, each_next}
use Rattle.diag_sweep.proofs.paths.may_try_all.Goals as goal

pub leads-init : goal.leads-init
leads-init c = λ x on. absurd (false≢true on)

pub leads-preserved : goal.leads-preserved
leads-preserved c = each_next c.args.leads.now c.leads.k c.index-leads-k.result (omega arith) c.index-leads-k.is (λ l. crosses_along l) (MayTry c.args.facts.now c.args.field.now) c.leads.invariant (c.if-not-may_try_along.ensures refl)

pub returns : goal.returns
returns c = λ _. each_all (λ l. crosses_along l) (MayTry c.args.facts.now c.args.field.now) c.args.leads.now c.leads.k (omega arith) c.leads.invariant
