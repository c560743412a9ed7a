use Rattle.machine_meaning.proofs.ValuesExist as exists
use Rattle.machine_meaning.proofs.joining.values_exist.Goals as goal

pub returns : goal.returns
returns c = λ c finite drive outputs within. exists.values_exist c finite drive outputs within
