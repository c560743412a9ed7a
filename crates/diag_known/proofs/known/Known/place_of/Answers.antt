use Rattle.diag_known.proofs.Vocabulary.{◌<◌, length, sym, subst, arith, wires_of, KnownWires}
use Rattle.diag_known.proofs.Ranking.{no_rank}
use Rattle.diag_known.proofs.known.Known.place_of.Goals as goal

pub returns-clause-unknown : goal.returns-clause-unknown
returns-clause-unknown c =
    let within : c.args.w.0 < length c.self.inside.ranks.items =
    let h = subst (λ (k : KnownWires). c.args.w.0 < wires_of k.shape) (sym c.self.view_is) c.requires in omega (arith, h, c.self.invariant.wide) in
    no_rank c.self.inside c.self.invariant c.args.w.0 c.args.self.now c.self.view_is within c.index.result.now c.index.ensures
