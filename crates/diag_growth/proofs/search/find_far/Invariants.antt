use Rattle.diag_growth.proofs.Vocabulary.{◌<◌, ℕ, port_at, IsFarPort}
use Rattle.diag_growth.proofs.search.find_far.Given as goal

abbrev pub invariant-ports : goal.invariant-ports
invariant-ports l = record {
  none : (i : ℕ) → i < l.k → ¬ IsFarPort l.facts l.without.steps l.hextant.0 l.near.0 l.line.0 (port_at l.facts.shape l.hextant.0 i);
}
