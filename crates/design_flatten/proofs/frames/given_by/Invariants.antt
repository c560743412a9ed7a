use Rattle.design_flatten.proofs.Vocabulary.{◌≡◌, ℕ, List, [], map, take, place_of, pair_of, becomes, pair_through, given}
use Rattle.design_flatten.specs.Given.{looked_up}
use Rattle.design_flatten.proofs.frames.given_by.Given as goal

abbrev pub invariant-pairs : goal.invariant-pairs
invariant-pairs l = record {
  used : l.given.used ≡ l.used;
  is : (w : List ℕ) → looked_up l.given w ≡ given (map (pair_through (becomes (place_of l.frame.given []) l.frame.names.now)) (map (λ p. pair_of p.now) (take l.pair-index l.pairs))) w;
}
