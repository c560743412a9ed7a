use Rattle.machine_defects.proofs.Vocabulary.{◌≡◌, ◌+◌, not, has_number, how_many}
use Rattle.machine_defects.proofs.counts.free_ports.Given as goal

abbrev pub invariant-ports : goal.invariant-ports
invariant-ports l = l.count ≡ how_many (λ i. not (has_number l.wires (l.first.0 + i))) l.i
