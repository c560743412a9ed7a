use Rattle.design_netlist.proofs.Vocabulary.{ℕ, ◌<◌, latch_at}
use Rattle.design_netlist.proofs.well_made.are_latches_below.Given as goal

abbrev pub invariant-latches : goal.invariant-latches
invariant-latches l = (j : ℕ) → j < l.k → ((latch_at l.latches j).out < l.count) × ((latch_at l.latches j).from < l.count)
