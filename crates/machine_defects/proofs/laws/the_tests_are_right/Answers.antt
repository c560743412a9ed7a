use Rattle.machine_defects.proofs.Telling.{wire_tells, cross_tells, table_tells, open_tells}
use Rattle.machine_defects.proofs.laws.the_tests_are_right.Goals as goal

pub returns : goal.returns
returns c = record { wires = wire_tells; crosses = cross_tells; tables = table_tells; lines = open_tells }
