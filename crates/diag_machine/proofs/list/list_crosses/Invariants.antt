use Rattle.diag_machine.proofs.Vocabulary.{wires_of, IsListing}
use Rattle.diag_machine.proofs.list.list_crosses.Given as goal

abbrev pub invariant-crosses : goal.invariant-crosses
invariant-crosses l = IsListing l.facts l.known.steps l.list (wires_of l.facts.shape) l.c 0
