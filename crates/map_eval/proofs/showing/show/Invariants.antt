use Rattle.map_eval.proofs.Vocabulary.{◌≡◌, ◌<◌, ℕ, true, length, get_or, Input, bit_of, value_in}
use Rattle.map_eval.proofs.showing.show.Given as goal

abbrev pub invariant-outputs : goal.invariant-outputs
invariant-outputs l = record {
  len : length l.row ≡ length l.fn.row;
  bits : (j : ℕ) → j < l.k → get_or l.row j true ≡ bit_of l.state.inputs.items (value_in l.state.values.items) (get_or l.plan.network.outputs j (Input 0));
}
