use Rattle.machine_defects.proofs.Vocabulary.{◌≡◌, ◌+◌, is_clear_line, how_many}
use Rattle.machine_defects.proofs.counts.clear_lines.Given as goal

abbrev pub invariant-lines : goal.invariant-lines
invariant-lines l = l.count ≡ how_many (λ i. is_clear_line l.wires l.shut (l.first.0 + i)) l.i
