use Rattle.design_netlist.proofs.Vocabulary.{◌≡◌, take, fold, latch_read, sooner}
use Rattle.design_netlist.proofs.reads.among_latches.Given as goal

abbrev pub invariant-latches : goal.invariant-latches
invariant-latches l = l.best ≡ fold (λ b m. sooner l.firsts b (latch_read m)) l.fn.found (take l.k l.latches)
