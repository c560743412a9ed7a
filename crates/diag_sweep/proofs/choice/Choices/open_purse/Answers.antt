use Rattle.diag_sweep.proofs.choice.Choices.open_purse.Goals as goal

pub returns-clause-funded : goal.returns-clause-funded
returns-clause-funded g c = c.in_ok-self.ensures.funded c.args.knowledge.now.verified
