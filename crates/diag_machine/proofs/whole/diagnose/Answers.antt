use Rattle.diag_evidence.proofs.Fewer.{few_cycles}
use Rattle.diag_machine.proofs.whole.diagnose.Goals as goal

pub returns-clause-cycles : goal.returns-clause-cycles
returns-clause-cycles g c = few_cycles _ _ c.diagnose_in_parts.ensures.machine c.diagnose_in_parts.ensures.few
