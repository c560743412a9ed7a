use Rattle.design_netlist.proofs.Vocabulary.{◌<◌, ◌≤◌, ℕ, length, start_at}
use Rattle.design_netlist.proofs.search.kept.Given as goal

abbrev pub invariant-back : goal.invariant-back
invariant-back l = record { within : l.n ≤ length l.groups; later : (i : ℕ) → l.n ≤ i → i < length l.groups → l.place < start_at l.groups i }

abbrev pub decreases-back : goal.decreases-back
decreases-back l = l.n
