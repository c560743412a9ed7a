use Rattle.map_eval.proofs.Vocabulary.{◌≡◌, ◌<◌, ℕ, false, in_tables, AreInsLower}
use Rattle.map_eval.proofs.placing.is_ordered.Given as goal

abbrev pub invariant-tables : goal.invariant-tables
invariant-tables l = (t : ℕ) → t < l.table → (in_tables l.tables t).latched ≡ false → AreInsLower l.network t
