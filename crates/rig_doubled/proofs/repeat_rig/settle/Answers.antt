use Rattle.rig_doubled.proofs.Vocabulary.{Option, IfSome, subst, Kept, IsOfSession}
use Rattle.rig_doubled.proofs.Repeating.{run_under, explained_under}
use Rattle.rig_doubled.proofs.repeat_rig.settle.Goals as goal

pub ask_again-requires-clause-told : goal.ask_again-requires-clause-told
ask_again-requires-clause-told g c = run_under c.in-Some.kept (g.R.Rig.rig_state c.args.inner.now)
    (subst (λ (o : Option Kept). IfSome o (λ k. IsOfSession k (g.R.Rig.rig_state c.args.inner.now))) c.in-Some.is c.requires.kept)

pub ask_again-requires-clause-explained : goal.ask_again-requires-clause-explained
ask_again-requires-clause-explained g c = explained_under c.in-Some.kept (g.R.Rig.rig_state c.args.inner.now)
    (subst (λ (o : Option Kept). IfSome o (λ k. IsOfSession k (g.R.Rig.rig_state c.args.inner.now))) c.in-Some.is c.requires.kept)
