use Rattle.design_netlist.proofs.Vocabulary.{◌≡◌, take, fold, cover_reads, sooner}
use Rattle.design_netlist.proofs.reads.among_covers.Given as goal

abbrev pub invariant-covers : goal.invariant-covers
invariant-covers l = l.best ≡ fold (λ b c. fold (sooner l.firsts) b (cover_reads c)) l.fn.found (take l.k l.covers)
