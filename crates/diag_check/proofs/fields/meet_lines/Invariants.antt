use Rattle.diag_check.proofs.Vocabulary.{Gets, IsOnLines}
use Rattle.diag_check.proofs.fields.meet_lines.Given as goal

abbrev pub invariant-lines : goal.invariant-lines
invariant-lines l = Gets (IsOnLines l.shape l.tap.0 l.lines.items l.j) l.j l.initial.crosses l.crosses
