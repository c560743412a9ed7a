use Rattle.rig_port.proofs.Vocabulary.{◌≡◌, ℕ, ◌≤◌, ◌<◌, All, false, take, ◌==◌, count_by, crosses_of, is_closed}
use Rattle.rig_port.proofs.edits.gone_of.Given as goal

abbrev pub invariant-closed : goal.invariant-closed
invariant-closed l = All (λ c. c.0 < crosses_of l.set.config.shape) l.gone.items
    × ((x : ℕ) → is_closed l.config.config x ≡ false → count_by (λ c. c.0 == x) (take l.k l.closed) ≤ count_by (λ c. c.0 == x) l.gone.items)
