use Rattle.diag_sweep.proofs.Vocabulary.{◌≡◌, ◌<◌, ℕ, None, get_or, pin_of, wires_along}
use Rattle.diag_sweep.proofs.paths.are_loose.Given as goal

abbrev pub invariant-places : goal.invariant-places
invariant-places l = (i : ℕ) → 0 < i → i < l.k → pin_of l.forest (get_or (wires_along l.lead) i 0) ≡ None
