use Rattle.map_eval.proofs.Vocabulary.{◌≡◌, ◌<◌, ℕ, length, named_by}
use Rattle.map_eval.proofs.placing.are_inverse.Given as goal

abbrev pub invariant-tables : goal.invariant-tables
invariant-tables l = (j : ℕ) → j < l.table → (named_by l.places j < length l.order) × (named_by l.order (named_by l.places j) ≡ j)
