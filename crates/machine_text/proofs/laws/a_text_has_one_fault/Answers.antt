use Rattle.machine_text.proofs.OneFault.{one_fault}
use Rattle.machine_text.proofs.laws.a_text_has_one_fault.Goals as goal

pub returns : goal.returns
returns c = one_fault
