use Rattle.design_netlist.proofs.Vocabulary.{◌≡◌, ◌<◌, ℕ, get_or, true, Zero, fits, bit_at}
use Rattle.design_netlist.proofs.eval.row_matches.Given as goal

abbrev pub invariant-places : goal.invariant-places
invariant-places l = (j : ℕ) → j < l.k → fits (get_or l.row j Zero) (bit_at l.values (get_or l.ins j 0)) ≡ true
