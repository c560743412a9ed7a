use Rattle.diag_tests.proofs.Vocabulary.{take, cross_numbers, Closes}
use Rattle.diag_tests.proofs.configs.close_all.Given as goal

abbrev pub invariant-ties : goal.invariant-ties
invariant-ties l = Closes (take l.c-index (cross_numbers l.ties)) l.fn.config.config l.config.config
