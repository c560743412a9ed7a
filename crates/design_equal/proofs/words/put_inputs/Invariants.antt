use Rattle.design_equal.proofs.Vocabulary.{◌≡◌, ℕ, List, length, Graph, Step, AreInputs, HaveInputs, HaveWords}
use Rattle.design_equal.proofs.words.put_inputs.Given as goal

abbrev pub invariant-ins : goal.invariant-ins
invariant-ins l = (length l.signals.items ≡ length l.fn.signals.items)
    × ((g : Graph) (pins : List ℕ) (steps : List Step) (pass : ℕ) (labels : List ℕ) → AreInputs steps l.places l.ins labels
    → HaveWords g pins steps pass l.words (length steps) → HaveInputs g pins pass l.ins labels l.signals.items l.k)
