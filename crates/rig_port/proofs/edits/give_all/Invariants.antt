use Rattle.rig_port.proofs.Vocabulary.{◌≡◌, ℕ, ◌<◌, length, setting_of, AreEdited}
use Rattle.rig_port.proofs.edits.give_all.Given as goal

abbrev pub invariant-tables : goal.invariant-tables
invariant-tables l = (l.set.config.shape ≡ l.initial.set.config.shape)
    × AreEdited l.initial.set.config l.initial.line.items l.set.config l.line.items
    × (l.set.config.closed ≡ l.initial.set.config.closed)
    × (length l.set.config.tables ≡ length l.initial.set.config.tables)
    × ((j : ℕ) → j < l.t → setting_of l.set.config j ≡ setting_of l.config.config j)
