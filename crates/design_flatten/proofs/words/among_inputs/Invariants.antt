use Rattle.design_flatten.proofs.Vocabulary.{◌≡◌, take, fold, word, sooner, places_of, signal_number}
use Rattle.design_flatten.proofs.words.among_inputs.Given as goal

abbrev pub invariant-ins : goal.invariant-ins
invariant-ins l = l.best ≡ fold (λ b s. sooner (places_of l.firsts) b (word l.line (signal_number l.signals s))) l.fn.found (take l.k l.ins)
