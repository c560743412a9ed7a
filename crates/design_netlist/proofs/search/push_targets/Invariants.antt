use Rattle.design_netlist.proofs.Vocabulary.{◌≡◌, ◌++◌, take, targets}
use Rattle.design_netlist.proofs.search.push_targets.Given as goal

abbrev pub invariant-ins : goal.invariant-ins
invariant-ins l = l.waiting.items ≡ l.fn.waiting.items ++ targets l.drivers (take l.k l.ins)
