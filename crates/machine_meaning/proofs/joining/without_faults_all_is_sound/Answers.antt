use Rattle.machine_shape.specs.Shape.{ends_of, table_wire}
use Rattle.machine_meaning.proofs.Faultless.{all_sound}
use Rattle.machine_meaning.proofs.joining.without_faults_all_is_sound.Goals as goal

pub returns : goal.returns
returns c = record {
  wires = λ m f none w. all_sound none w;
  crosses = λ m f none x. record { not_stuck = none.crosses x; tap = all_sound none (ends_of m x).0; line = all_sound none (ends_of m x).1 };
  tables = λ m f none t. record { cells = λ a h. none.cells t a; register = none.registers t; pins = λ k h. all_sound none (table_wire m t k) };
}
