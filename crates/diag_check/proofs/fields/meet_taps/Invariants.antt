use Rattle.diag_check.proofs.Vocabulary.{Gets, IsOnTaps}
use Rattle.diag_check.proofs.fields.meet_taps.Given as goal

abbrev pub invariant-taps : goal.invariant-taps
invariant-taps l = Gets (IsOnTaps l.shape l.taps.items l.line.0 l.j) l.j l.initial.crosses l.crosses
