use Rattle.map_network.proofs.Vocabulary.{◌≡◌, ◌≤◌, take, wants_in}
use Rattle.map_network.proofs.names.wants_in.Given as goal

abbrev pub invariant-places : goal.invariant-places
invariant-places l = (l.count ≡ wants_in (take l.k l.row)) × (l.count ≤ l.k)
