use Rattle.cmd_top.proofs.ChainLemmas.{runs-on-its-machine}
use Rattle.cmd_top.proofs.laws.diagnosed_machines_run_the_design.Goals as goal

pub returns : goal.returns
returns c = λ machine name defects design other image vectors old diagnosed listed compiled handed ran. runs-on-its-machine machine name defects design other image vectors old diagnosed listed compiled handed ran
