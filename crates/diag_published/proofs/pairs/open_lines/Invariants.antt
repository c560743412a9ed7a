use Rattle.diag_published.proofs.Vocabulary.{take, IsListOf, IsOpenOf, wire_numbers}
use Rattle.diag_published.proofs.pairs.open_lines.Given as goal

abbrev pub invariant-lines : goal.invariant-lines
invariant-lines l = IsListOf (IsOpenOf l.facts (wire_numbers l.taps) (wire_numbers (take l.line-index l.lines))) (wire_numbers l.those.items)
