use Rattle.design_flatten.proofs.Vocabulary.{sym, subst, IfOk, IfErr, AreBodies, IsSubstitution, IsRefused}
use Rattle.design_flatten.proofs.work.substitute.Goals as goal

pub substituted_of-requires : goal.substituted_of-requires
substituted_of-requires c = subst (λ ms. AreBodies ms c.in_ok-bodies.bodies) (sym c.in_ok-bodies.ensures.models) c.in_ok-bodies.ensures.bodies

pub returns-clause-ok : goal.returns-clause-ok
returns-clause-ok c = subst (λ ms. IfOk c.substituted_of.result (IsSubstitution ms)) c.in_ok-bodies.ensures.models c.substituted_of.ensures.ok

pub returns-clause-refused : goal.returns-clause-refused
returns-clause-refused c = subst (λ ms. IfErr c.substituted_of.result (IsRefused ms)) c.in_ok-bodies.ensures.models c.substituted_of.ensures.refused
