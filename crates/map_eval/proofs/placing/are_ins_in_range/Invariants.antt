use Rattle.map_eval.proofs.Vocabulary.{◌<◌, ℕ, IsSourceOf, source_at}
use Rattle.map_eval.proofs.placing.are_ins_in_range.Given as goal

abbrev pub invariant-ins : goal.invariant-ins
invariant-ins l = (p : ℕ) → p < l.k → IsSourceOf l.network (source_at l.network l.table p)
