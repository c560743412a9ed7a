use Rattle.design_flatten.proofs.Vocabulary.{◌≡◌, ◌++◌, map, take, output_line, line_in}
use Rattle.design_flatten.proofs.ordered.push_outputs.Given as goal

abbrev pub invariant-ports : goal.invariant-ports
invariant-ports l = map line_in l.lines.items ≡ map line_in l.fn.lines.items ++ map output_line (take l.port-index l.ports)
