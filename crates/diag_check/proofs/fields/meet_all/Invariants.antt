use Rattle.diag_check.proofs.Vocabulary.{◌*◌, length, Gets, IsBetween}
use Rattle.diag_check.proofs.fields.meet_all.Given as goal

abbrev pub invariant-taps : goal.invariant-taps
invariant-taps l = Gets (IsBetween l.shape l.taps.items l.lines.items l.j) (l.j * length l.lines.items) l.initial.crosses l.crosses
