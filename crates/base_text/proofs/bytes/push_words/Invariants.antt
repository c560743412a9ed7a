use Rattle.base_text.proofs.Vocabulary.{◌≡◌, ◌++◌, length, map, words_of}
use Rattle.base_text.proofs.bytes.push_words.Given as goal

abbrev pub invariant-loop-rest : goal.invariant-loop-rest
invariant-loop-rest l = map (λ w. w.now) l.words.items ++ words_of l.rest ≡ map (λ w. w.now) l.initial.words.items ++ words_of l.text

abbrev pub decreases-loop-rest : goal.decreases-loop-rest
decreases-loop-rest l = length l.rest
