use Rattle.diag_evidence.proofs.Lists.{loop_passes, route_passes}
use Rattle.diag_evidence.proofs.laws.tests_by_lists_pass.Goals as goal

pub returns : goal.returns
returns c = record { toggle = loop_passes; test_stuck = route_passes }
