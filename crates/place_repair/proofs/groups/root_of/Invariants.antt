use Rattle.place_repair.proofs.Vocabulary.{◌≡◌, IsFound, parent_at}
use Rattle.place_repair.proofs.groups.root_of.Given as goal

abbrev pub invariant-up : goal.invariant-up
invariant-up l = record {
  found : IsFound l.fn.parents l.parents l.wire l.at;
  here : l.up ≡ parent_at l.parents l.at;
}

abbrev pub decreases-up : goal.decreases-up
decreases-up l = l.at
