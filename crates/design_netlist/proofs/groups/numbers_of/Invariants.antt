use Rattle.design_netlist.proofs.Vocabulary.{◌≡◌, take, map, search_number}
use Rattle.design_netlist.proofs.groups.numbers_of.Given as goal

abbrev pub invariant-states : goal.invariant-states
invariant-states l = l.numbers.items ≡ map search_number (take l.k l.states.items)
