use Rattle.diag_evidence.proofs.Vocabulary.{take, Closes, crosses_of_leads}
use Rattle.diag_evidence.proofs.leads.close_walks.Given as goal

abbrev pub invariant-leads : goal.invariant-leads
invariant-leads l = Closes (crosses_of_leads (take l.k l.leads)) l.fn.config.config l.config.config
