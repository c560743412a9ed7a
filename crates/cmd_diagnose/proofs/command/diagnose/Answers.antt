use Rattle.cmd_diagnose.proofs.DiagnoseLaws.{diagnose-lawful}
use Rattle.cmd_diagnose.proofs.command.diagnose.Goals as goal

pub returns-clause-lawful : goal.returns-clause-lawful
returns-clause-lawful g c = diagnose-lawful c.args.machine.now c.args.name.now
