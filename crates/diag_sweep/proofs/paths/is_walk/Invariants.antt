use Rattle.diag_sweep.proofs.Vocabulary.{◌+◌, ◌≤◌, get_or, length, take, LeadsTo, crosses_along, wires_along}
use Rattle.diag_sweep.proofs.paths.is_walk.Given as goal

abbrev pub invariant-steps : goal.invariant-steps
invariant-steps l = record {
  leads : LeadsTo l.shape (get_or (wires_along l.lead) 0 0) (take l.k (crosses_along l.lead)) (take (l.k + 1) (wires_along l.lead)) (get_or (wires_along l.lead) l.k 0);
  within : l.k ≤ length (crosses_along l.lead);
}
