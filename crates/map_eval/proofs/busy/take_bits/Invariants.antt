use Rattle.map_eval.proofs.Vocabulary.{◌≡◌, List, Bool, length, HaveInputs, HaveTakenTo}
use Rattle.map_eval.proofs.busy.take_bits.Given as goal

abbrev pub invariant-tables : goal.invariant-tables
invariant-tables l = (length l.values ≡ length l.fn.values) × ((inputs : List Bool) → HaveInputs l.plan.network inputs l.bits → HaveTakenTo l.plan.network l.table inputs l.bits l.values)
