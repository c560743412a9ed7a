use Rattle.design_netlist.specs.Vocabulary.{IsFirst, line_at, IsDoubledIn}
use Rattle.design_netlist.proofs.drives.first_doubled.Given as goal

abbrev pub invariant-words : goal.invariant-words
invariant-words l = IsFirst (line_at l.words) l.i (IsDoubledIn l.words) l.found
