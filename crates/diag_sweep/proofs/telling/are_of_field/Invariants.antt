use Rattle.diag_sweep.proofs.Vocabulary.{◌≡◌, true, take, All, has_number, Foot}
use Rattle.diag_sweep.proofs.telling.are_of_field.Given as goal

abbrev pub invariant-feet : goal.invariant-feet
invariant-feet l = All (λ (foot : Foot). has_number l.field.wires foot.0.0 ≡ true) (take l.k l.feet.items)
