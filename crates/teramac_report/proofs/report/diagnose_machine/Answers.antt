use Rattle.std.proofs.Common.{ap}
use Rattle.std.specs.Option.{option_map}
use Rattle.rig.specs.Rig.{Asked}
use Rattle.cmd_steps.proofs.Making.{nothing}
use Rattle.teramac_report.proofs.report.diagnose_machine.Goals as goal

pub diagnose_in_parts-requires : goal.diagnose_in_parts-requires
diagnose_in_parts-requires g c = record { attached = ap (option_map (λ (a : Asked). a.shape)) (c.in_ok-attach.ensures.took nothing.store nothing.sink).gives }
