use Rattle.diag_evidence.proofs.Vocabulary.{take, among, Gains, crosses_along, these_crosses}
use Rattle.diag_evidence.proofs.facts.Facts.keep_crosses.Given as goal

abbrev pub invariant-crosses : goal.invariant-crosses
invariant-crosses l = record { gains : Gains (these_crosses (among (take l.k (crosses_along l.lead)))) l.fn.self l.self }
