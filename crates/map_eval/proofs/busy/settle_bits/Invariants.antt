use Rattle.map_eval.proofs.Vocabulary.{◌≡◌, List, Bool, length, AreLatchedSame, AreTrueTo, HaveInputs}
use Rattle.map_eval.proofs.busy.settle_bits.Given as goal

abbrev pub invariant-tables : goal.invariant-tables
invariant-tables l = record {
  len : length l.bits ≡ length l.fn.bits;
  inputs : (inputs : List Bool) → HaveInputs l.plan.network inputs l.fn.bits → HaveInputs l.plan.network inputs l.bits;
  latched : AreLatchedSame l.plan.network l.fn.bits l.bits;
  settled : (inputs : List Bool) → HaveInputs l.plan.network inputs l.fn.bits → AreTrueTo l.plan.network l.table inputs l.bits;
}
