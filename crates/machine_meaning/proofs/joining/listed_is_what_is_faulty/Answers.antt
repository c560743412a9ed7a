use Rattle.machine_meaning.proofs.Faulty.{wire_listed, cross_listed, cell_listed, register_listed, bridge_listed}
use Rattle.machine_meaning.proofs.joining.listed_is_what_is_faulty.Goals as goal

pub returns : goal.returns
returns c = record {
  wires = λ m d f covers. wire_listed covers;
  crosses = λ m d f covers. cross_listed covers;
  cells = λ m d f covers. cell_listed covers;
  registers = λ m d f covers. register_listed covers;
  bridges = λ m d f covers. bridge_listed covers;
}
