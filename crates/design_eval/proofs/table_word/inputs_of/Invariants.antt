use Rattle.design_eval.proofs.Vocabulary.{◌≡◌, ◌<◌, ℕ, number_at}
use Rattle.design_eval.proofs.table_word.inputs_of.Given as goal

abbrev pub invariant-wires : goal.invariant-wires
invariant-wires l = (i : ℕ) → i < l.k → number_at l.wires i ≡ l.out → ⊥
