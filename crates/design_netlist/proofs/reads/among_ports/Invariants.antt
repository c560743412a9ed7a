use Rattle.design_netlist.proofs.Vocabulary.{◌≡◌, take, fold, sooner}
use Rattle.design_netlist.proofs.reads.among_ports.Given as goal

abbrev pub invariant-ports : goal.invariant-ports
invariant-ports l = l.best ≡ fold (sooner l.firsts) l.fn.found (take l.k l.ports)
