use Rattle.rig_port.proofs.Vocabulary.{◌≡◌, ℕ, ◌≤◌, true, false, drop, ◌==◌, count_by, is_closed, AreEdited}
use Rattle.rig_port.proofs.edits.open_gone.Given as goal

abbrev pub invariant-gone : goal.invariant-gone
invariant-gone l = (l.set.config.shape ≡ l.initial.set.config.shape)
    × AreEdited l.initial.set.config l.initial.line.items l.set.config l.line.items
    × ((x : ℕ) → is_closed l.set.config x ≡ true → is_closed l.config.config x ≡ false → 1 ≤ count_by (λ c. c.0 == x) (drop l.k l.gone.items))
