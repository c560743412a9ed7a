use Rattle.map_eval.proofs.Vocabulary.{◌≡◌, ◌+◌, ◌<◌, ◌≤◌, ℕ, length, value_in}
use Rattle.map_eval.proofs.busy.load_inputs.Given as goal

abbrev pub invariant-inputs : goal.invariant-inputs
invariant-inputs l = record {
  len : length l.bits ≡ length l.fn.bits;
  inputs : (k : ℕ) → k < l.input → value_in l.bits (l.tables + k) ≡ value_in l.vector k;
  before : (s : ℕ) → s < l.tables → value_in l.bits s ≡ value_in l.fn.bits s;
  behind : (s : ℕ) → l.tables + l.input ≤ s → value_in l.bits s ≡ value_in l.fn.bits s;
}
