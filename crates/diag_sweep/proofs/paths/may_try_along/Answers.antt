use Rattle.diag_sweep.proofs.Vocabulary.{refl, arith, false≢true, crosses_along, MayTry}
use Rattle.diag_sweep.proofs.Coursing.{each_more, each_whole}
use Rattle.diag_sweep.proofs.paths.may_try_along.Goals as goal

pub places-init : goal.places-init
places-init c = λ x on. absurd (false≢true on)

pub places-preserved : goal.places-preserved
places-preserved c = each_more (MayTry c.args.facts.now c.args.field.now) (crosses_along c.args.lead.now) c.places.k c.cross_at-cross.result.0 (omega arith) c.cross_at-cross.ensures c.places.invariant (c.if-not-may_try.ensures refl)

pub returns : goal.returns
returns c = λ _. each_whole (MayTry c.args.facts.now c.args.field.now) (crosses_along c.args.lead.now) c.places.k (omega arith) c.places.invariant
