use Rattle.design_netlist.proofs.Vocabulary.{ℕ, ◌<◌, signal_at}
use Rattle.design_netlist.proofs.well_made.are_ports_below.Given as goal

abbrev pub invariant-ports : goal.invariant-ports
invariant-ports l = (j : ℕ) → j < l.k → signal_at l.ports j < l.count
