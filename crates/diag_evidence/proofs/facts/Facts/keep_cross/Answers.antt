use Rattle.diag_evidence.proofs.Vocabulary.{◌<◌, length, subst, sym, arith, crosses_of, Kept}
use Rattle.diag_evidence.proofs.KeptLemmas.{gains_cross}
use Rattle.diag_evidence.proofs.facts.Facts.keep_cross.Goals as goal

pub returns : goal.returns
returns c =
    let below : c.args.c.0 < crosses_of c.self.inside.shape = subst (λ (k : Kept). c.args.c.0 < crosses_of k.shape) (sym c.self.view_is) c.requires in
    let within : c.args.c.0 < length c.self.inside.crosses = omega (arith, below, c.self.invariant.0.crosses) in
    rw (← c.self.view_is, c.insert.ensures) (gains_cross _ c.args.c.0 within)
