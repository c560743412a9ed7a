use Rattle.map_eval.proofs.Vocabulary.{◌<◌, ℕ, AreInsInRange}
use Rattle.map_eval.proofs.placing.are_in_range.Given as goal

abbrev pub invariant-tables : goal.invariant-tables
invariant-tables l = (t : ℕ) → t < l.table → AreInsInRange l.network t
