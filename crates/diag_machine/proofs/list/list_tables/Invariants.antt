use Rattle.diag_machine.proofs.Vocabulary.{wires_of, crosses_of, IsListing}
use Rattle.diag_machine.proofs.list.list_tables.Given as goal

abbrev pub invariant-tables : goal.invariant-tables
invariant-tables l = IsListing l.facts l.known.steps l.list (wires_of l.facts.shape) (crosses_of l.facts.shape) l.t
