use Rattle.diag_sweep.proofs.Vocabulary.{◌≡◌, true, take, All, has_number, WireTest}
use Rattle.diag_sweep.proofs.footing.are_of_field.Given as goal

abbrev pub invariant-hangs : goal.invariant-hangs
invariant-hangs l = All (λ (h : WireTest). has_number l.field.wires h.wire.0 ≡ true) (take l.k l.hangs)
