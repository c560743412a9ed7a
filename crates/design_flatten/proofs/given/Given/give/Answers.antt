use Rattle.design_flatten.proofs.given.Given.give.Goals as goal

pub returns-clause-given : goal.returns-clause-given
returns-clause-given c w = c.in_ok-insert.ensures.updates.0 (record c.args.formal { now = w })
