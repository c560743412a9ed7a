use Rattle.map_eval.proofs.Vocabulary.{◌≡◌, ◌<◌, ℕ, false, get_or, IsKept}
use Rattle.map_eval.proofs.running.put_inputs.Given as goal

abbrev pub invariant-inputs : goal.invariant-inputs
invariant-inputs l = record {
  kept : IsKept l.plan l.state;
  values : l.state.values.items ≡ l.fn.state.values.items;
  inputs : (i : ℕ) → i < l.input → get_or l.state.inputs.items i false ≡ get_or l.vector i false;
}
