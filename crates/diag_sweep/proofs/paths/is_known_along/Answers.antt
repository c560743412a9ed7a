use Rattle.diag_sweep.proofs.Vocabulary.{refl, arith, false≢true, wires_along, HasWire}
use Rattle.diag_sweep.proofs.Coursing.{each_more, each_whole}
use Rattle.diag_sweep.proofs.paths.is_known_along.Goals as goal

pub places-init : goal.places-init
places-init c = λ w on. absurd (false≢true on)

pub places-preserved : goal.places-preserved
places-preserved c = each_more (HasWire c.args.known.now.steps) (wires_along c.args.lead.now) c.places.k c.wire_at-w.result.0 (omega arith) c.wire_at-w.ensures c.places.invariant (c.if-not-has.ensures.known refl)

pub returns : goal.returns
returns c = λ _. each_whole (HasWire c.args.known.now.steps) (wires_along c.args.lead.now) c.places.k (omega arith) c.places.invariant
