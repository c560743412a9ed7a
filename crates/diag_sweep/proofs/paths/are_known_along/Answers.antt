use Rattle.diag_sweep.proofs.Vocabulary.{refl, arith, false≢true, wires_along, HasWire}
use Rattle.diag_sweep.proofs.Coursing.{each_all, each_next}
use Rattle.diag_sweep.proofs.paths.are_known_along.Goals as goal

pub leads-init : goal.leads-init
leads-init c = λ w on. absurd (false≢true on)

pub leads-preserved : goal.leads-preserved
leads-preserved c = each_next c.args.leads.now c.leads.k c.index-leads-k.result (omega arith) c.index-leads-k.is (λ l. wires_along l) (HasWire c.args.known.now.steps) c.leads.invariant (c.if-not-is_known_along.ensures refl)

pub returns : goal.returns
returns c = λ _. each_all (λ l. wires_along l) (HasWire c.args.known.now.steps) c.args.leads.now c.leads.k (omega arith) c.leads.invariant
