use Rattle.map_eval.specs.States.{AreGates}
use Rattle.map_eval.proofs.plan.gates_of.Given as goal

abbrev pub invariant-tables : goal.invariant-tables
invariant-tables l = AreGates l.network l.table l.gates.items
