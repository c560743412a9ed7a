use Rattle.design_eval.proofs.Vocabulary.{ℕ, ◌<◌, ◌*◌, number_at}
use Rattle.design_eval.proofs.readers.start_of.Given as goal

abbrev pub invariant-keys : goal.invariant-keys
invariant-keys l = (j : ℕ) → j < l.i → number_at l.keys j < l.signal * 65536
