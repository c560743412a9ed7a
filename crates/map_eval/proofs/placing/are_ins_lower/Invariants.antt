use Rattle.map_eval.proofs.Vocabulary.{◌<◌, ℕ, source_at, IsLower}
use Rattle.map_eval.proofs.placing.are_ins_lower.Given as goal

abbrev pub invariant-ins : goal.invariant-ins
invariant-ins l = (p : ℕ) → p < l.k → IsLower l.network l.table (source_at l.network l.table p)
