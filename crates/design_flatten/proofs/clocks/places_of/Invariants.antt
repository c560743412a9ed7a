use Rattle.design_flatten.proofs.Vocabulary.{◌≡◌, ℕ, List, take, at_name, place_in}
use Rattle.design_flatten.proofs.clocks.places_of.Given as goal

abbrev pub invariant-names : goal.invariant-names
invariant-names l = (w : List ℕ) → at_name l.places w ≡ place_in (take l.place l.names) w
