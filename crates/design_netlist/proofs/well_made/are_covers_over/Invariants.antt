use Rattle.design_netlist.proofs.Vocabulary.{ℕ, ◌<◌, cover_at, IsCoverOver}
use Rattle.design_netlist.proofs.well_made.are_covers_over.Given as goal

abbrev pub invariant-covers : goal.invariant-covers
invariant-covers l = (j : ℕ) → j < l.k → IsCoverOver (cover_at l.covers j) l.count
