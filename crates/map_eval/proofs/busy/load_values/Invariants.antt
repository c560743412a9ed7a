use Rattle.map_eval.proofs.Vocabulary.{◌≡◌, ◌<◌, ◌≤◌, ℕ, length, value_in}
use Rattle.map_eval.proofs.busy.load_values.Given as goal

abbrev pub invariant-tables : goal.invariant-tables
invariant-tables l = record {
  len : length l.bits ≡ length l.fn.bits;
  tables : (t : ℕ) → t < l.table → value_in l.bits t ≡ value_in l.values t;
  rest : (s : ℕ) → l.table ≤ s → value_in l.bits s ≡ value_in l.fn.bits s;
}
