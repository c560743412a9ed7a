use Rattle.place_plan.proofs.Vocabulary.{◌≤◌, ◌<◌, ℕ, length, IsNth}
use Rattle.place_plan.proofs.ports.port_of.Given as goal

abbrev pub invariant-loop-k : goal.invariant-loop-k
invariant-loop-k l = record {
  before : (j : ℕ) → j < l.k → IsNth l.crossing j l.net.0 → length l.ports ≤ j;
  within : l.k ≤ length l.ports;
}
