use Rattle.diag_known.proofs.Vocabulary.{◌≤◌, length, subst, arith, wires_of, KnownWires}
use Rattle.diag_known.proofs.Ranking.{ranks_few}
use Rattle.diag_known.proofs.known.Known.len.Goals as goal

pub returns-clause-few : goal.returns-clause-few
returns-clause-few c =
    let few = subst (λ (k : KnownWires). length k.steps ≤ wires_of k.shape) c.self.view_is (ranks_few c.self.inside c.self.invariant) in
    let whole = subst (λ (k : KnownWires). length c.self.inside.steps.items ≤ wires_of k.shape) c.self.view_is (ranks_few c.self.inside c.self.invariant) in
    let e = c.len.ensures in omega (arith, e, whole)
