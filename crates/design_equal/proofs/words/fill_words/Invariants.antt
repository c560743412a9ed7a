use Rattle.design_equal.proofs.Vocabulary.{◌≡◌, ◌≤◌, ℕ, List, length, Graph, AreSteps, HaveWords}
use Rattle.design_equal.proofs.words.fill_words.Given as goal

abbrev pub invariant-steps : goal.invariant-steps
invariant-steps l = (length l.words.items ≡ length l.steps)
    × ((g : Graph) (pins : List ℕ) → length pins ≤ 14 → AreSteps g pins l.steps → HaveWords g pins l.steps l.pass l.words.items l.k)
