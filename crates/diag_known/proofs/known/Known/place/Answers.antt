use Rattle.diag_known.proofs.Vocabulary.{sym, subst, arith, KnownWires, HasWire}
use Rattle.diag_known.proofs.Ranking.{has_rank}
use Rattle.diag_known.proofs.known.Known.place.Goals as goal

pub index-requires : goal.index-requires
index-requires c =
    let h = has_rank c.self.inside c.self.invariant c.args.w.0 (subst (λ (k : KnownWires). HasWire k.steps c.args.w.0) (sym c.self.view_is) c.requires) in
    omega (arith, h)
