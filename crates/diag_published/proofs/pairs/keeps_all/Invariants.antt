use Rattle.diag_published.proofs.Vocabulary.{take, KeepsAll, wire_numbers}
use Rattle.diag_published.proofs.pairs.keeps_all.Given as goal

abbrev pub invariant-taps : goal.invariant-taps
invariant-taps l = KeepsAll l.facts (wire_numbers (take l.tap-index l.taps)) l.line.0
