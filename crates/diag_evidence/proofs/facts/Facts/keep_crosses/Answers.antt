use Rattle.diag_evidence.proofs.Vocabulary.{◌≡◌, ◌<◌, ◌+◌, length, take, subst, sym, arith, crosses_of, among_at, crosses_along}
use Rattle.diag_evidence.proofs.Only.{gains_more}
use Rattle.diag_evidence.proofs.facts.Facts.keep_crosses.Goals as goal

pub keep_cross-requires : goal.keep_cross-requires
keep_cross-requires c = subst (λ m. c.cross_at.result.0 < crosses_of m) (sym c.crosses.invariant.gains.shape) (c.requires.crosses c.cross_at.result.0 (among_at (crosses_along c.args.lead.now) c.crosses.k _ (omega arith) c.cross_at.ensures))

pub crosses-preserved : goal.crosses-preserved
crosses-preserved c = record { gains = gains_more (crosses_along c.args.lead.now) c.crosses.k c.cross_at.result.0 (omega arith) c.cross_at.ensures c.crosses.invariant.gains c.keep_cross.ensures }
