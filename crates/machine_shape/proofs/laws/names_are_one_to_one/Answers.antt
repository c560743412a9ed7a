use Rattle.machine_shape.proofs.OneName as names
use Rattle.machine_shape.proofs.laws.names_are_one_to_one.Goals as goal

pub returns : goal.returns
returns c = λ m. record {
  root = names.root_name m;
  pin = names.pin_named m;
  line = names.line_named m;
  port = names.port_named m;
  input = names.input_named m;
  output = names.output_named m;
  one_wire = names.one_wire m;
  one_table = names.one_table m;
  one_node = names.one_node m;
}
