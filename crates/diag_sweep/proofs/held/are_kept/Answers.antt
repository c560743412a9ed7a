use Rattle.diag_sweep.proofs.Vocabulary.{refl, arith, false≢true}
use Rattle.diag_sweep.proofs.Holding.{kept_more, kept_whole}
use Rattle.diag_sweep.proofs.held.are_kept.Goals as goal

pub crosses-init : goal.crosses-init
crosses-init c = λ x on. absurd (false≢true on)

pub crosses-preserved : goal.crosses-preserved
crosses-preserved c = kept_more c.args.facts.now c.args.crosses.now c.crosses.k c.cross_at-cross.result c.cross_at-cross.ensures c.crosses.invariant (c.if-not-keeps.ensures refl)

pub returns : goal.returns
returns c = λ _. kept_whole c.args.facts.now c.args.crosses.now c.crosses.k (omega arith) c.crosses.invariant
