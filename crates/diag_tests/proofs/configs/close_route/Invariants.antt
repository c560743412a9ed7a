use Rattle.diag_tests.proofs.Vocabulary.{take, Closes}
use Rattle.diag_tests.proofs.configs.close_route.Given as goal

abbrev pub invariant-steps : goal.invariant-steps
invariant-steps l = Closes (take l.k l.route.crosses) l.fn.config.config l.config.config
