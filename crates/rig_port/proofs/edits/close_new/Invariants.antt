use Rattle.rig_port.proofs.Vocabulary.{◌≡◌, ℕ, ◌≤◌, true, take, ◌==◌, count_by, is_closed, AreEdited}
use Rattle.rig_port.proofs.edits.close_new.Given as goal

abbrev pub invariant-closed : goal.invariant-closed
invariant-closed l = (l.set.config.shape ≡ l.initial.set.config.shape)
    × AreEdited l.initial.set.config l.initial.line.items l.set.config l.line.items
    × ((x : ℕ) → is_closed l.set.config x ≡ true → is_closed l.config.config x ≡ true)
    × ((x : ℕ) → 1 ≤ count_by (λ c. c.0 == x) (take l.k l.closed) → is_closed l.set.config x ≡ true)
