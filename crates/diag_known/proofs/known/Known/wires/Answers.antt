use Rattle.diag_known.proofs.Vocabulary.{◌≡◌, length, subst, wires_of, KnownWires}
use Rattle.diag_known.proofs.Ranking.{marked_has, has_marked}
use Rattle.diag_known.proofs.known.Known.wires.Goals as goal

pub returns-clause-len : goal.returns-clause-len
returns-clause-len c = subst (λ (k : KnownWires). length c.self.inside.wires ≡ wires_of k.shape) c.self.view_is c.self.invariant.marks

pub returns-clause-known : goal.returns-clause-known
returns-clause-known c = marked_has c.self.inside c.self.invariant c.args.self.now c.self.view_is

pub returns-clause-whole : goal.returns-clause-whole
returns-clause-whole c = has_marked c.self.inside c.self.invariant c.args.self.now c.self.view_is
