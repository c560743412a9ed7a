use Rattle.design_netlist.proofs.Vocabulary.{subst, IsFoundIn}
use Rattle.design_netlist.proofs.CheckLemmas.{not_checked}
use Rattle.design_netlist.proofs.checks.check.Goals as goal

pub returns-in_ok-name-in-Cyclic-clause-only : goal.returns-in_ok-name-in-Cyclic-clause-only
returns-in_ok-name-in-Cyclic-clause-only c = λ is. absurd (not_checked c.args.draft c.in-Cyclic.word (subst (λ f. IsFoundIn c.args.draft f) c.in-Cyclic.is c.in_ok-word.ensures) is)
