use Rattle.design_flatten.proofs.Vocabulary.{◌≡◌, None, take, fold, sooner, places_of, placed_line, read_on}
use Rattle.design_flatten.proofs.words.first_undriven.Given as goal

abbrev pub invariant-placed : goal.invariant-placed
invariant-placed l = l.best ≡ fold (λ b p. fold (sooner (places_of l.firsts)) b (read_on l.signals (placed_line p))) None (take l.k l.placed)
