use Rattle.std.proofs.Common.{ℕ, ◌<◌, get_or}
use Rattle.design_netlist.proofs.well_made.are_below.Given as goal

abbrev pub invariant-signals : goal.invariant-signals
invariant-signals l = (j : ℕ) → j < l.k → get_or l.signals j 0 < l.count
