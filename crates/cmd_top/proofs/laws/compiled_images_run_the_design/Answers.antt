use Rattle.cmd_top.proofs.ChainLemmas.{runs-the-design}
use Rattle.cmd_top.proofs.laws.compiled_images_run_the_design.Goals as goal

pub returns : goal.returns
returns c = λ machine defects design name image vectors old compiled handed ran. runs-the-design machine defects design name image vectors old compiled handed ran
