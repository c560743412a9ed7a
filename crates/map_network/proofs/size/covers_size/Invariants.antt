use Rattle.map_network.proofs.Vocabulary.{◌≡◌, take, sum_by, cover_size}
use Rattle.map_network.proofs.size.covers_size.Given as goal

abbrev pub invariant-covers : goal.invariant-covers
invariant-covers l = l.size ≡ sum_by cover_size (take l.k l.covers)
