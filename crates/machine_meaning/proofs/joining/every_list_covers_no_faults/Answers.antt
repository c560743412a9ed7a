use Rattle.machine_meaning.proofs.Faultless.{covers_none}
use Rattle.machine_meaning.proofs.joining.every_list_covers_no_faults.Goals as goal

pub returns : goal.returns
returns c = λ m d f none. covers_none none
