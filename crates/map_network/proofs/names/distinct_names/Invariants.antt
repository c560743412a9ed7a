use Rattle.map_network.proofs.Vocabulary.{◌≡◌, ◌≤◌, take, length, distinct}
use Rattle.map_network.proofs.names.distinct_names.Given as goal

abbrev pub invariant-ins : goal.invariant-ins
invariant-ins l = (l.names.items ≡ distinct (take l.k l.ins)) × (length l.names.items ≤ 6)
