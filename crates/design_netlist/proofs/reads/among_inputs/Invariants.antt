use Rattle.design_netlist.proofs.Vocabulary.{◌≡◌, take, fold, word, sooner}
use Rattle.design_netlist.proofs.reads.among_inputs.Given as goal

abbrev pub invariant-ins : goal.invariant-ins
invariant-ins l = l.best ≡ fold (λ b s. sooner l.firsts b (word l.cover.line s)) l.fn.found (take l.k l.cover.ins)
