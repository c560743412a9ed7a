use Rattle.diag_growth.proofs.Vocabulary.{◌<◌, ℕ, line_at, hextant_of, AreOuts, IsTold}
use Rattle.diag_growth.proofs.seats.outs_of.Given as goal

abbrev pub invariant-lines : goal.invariant-lines
invariant-lines l = record {
  outs : AreOuts l.facts l.known.steps l.without.steps l.t.0 l.outs.items;
  told : (i : ℕ) → i < l.k → IsTold l.facts l.known.steps l.without.steps l.t.0 l.outs.items (line_at l.facts.shape (hextant_of l.facts.shape l.t.0) i);
}
