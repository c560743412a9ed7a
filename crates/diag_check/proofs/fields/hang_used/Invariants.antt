use Rattle.diag_check.proofs.Vocabulary.{◌*◌, ◌≡◌, IsHungOn}
use Rattle.diag_check.proofs.Fielding.{HasMarked}
use Rattle.diag_check.proofs.fields.hang_used.Given as goal

abbrev pub invariant-wires : goal.invariant-wires
invariant-wires l = HasMarked l.shape l.used l.w (λ k w. w ≡ k) (IsHungOn l.shape l.frame.picks.items) 1 (2 * l.frame.most) l.initial.field l.field
