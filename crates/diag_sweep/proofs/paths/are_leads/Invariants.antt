use Rattle.diag_sweep.proofs.Vocabulary.{All, take, IsLead}
use Rattle.diag_sweep.proofs.paths.are_leads.Given as goal

abbrev pub invariant-leads : goal.invariant-leads
invariant-leads l = All (IsLead l.forest) (take l.k l.leads)
