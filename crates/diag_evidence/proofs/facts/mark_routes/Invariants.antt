use Rattle.diag_evidence.proofs.Vocabulary.{◌≡◌, ◌||◌, ℕ, length, take, has_number, among, wires_over}
use Rattle.diag_evidence.proofs.facts.mark_routes.Given as goal

abbrev pub invariant-routes : goal.invariant-routes
invariant-routes l = record {
  marked : (w : ℕ) → has_number l.wires w ≡ (among (wires_over (take l.k l.routes)) w || has_number l.fn.wires w);
  len_is : length l.wires ≡ length l.fn.wires;
}
