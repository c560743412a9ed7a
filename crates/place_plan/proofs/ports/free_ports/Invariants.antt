use Rattle.place_plan.specs.Vocabulary.{AreLists, IsFreePort}
use Rattle.place_plan.proofs.ports.free_ports.Given as goal

abbrev pub invariant-loop-n : goal.invariant-loop-n
invariant-loop-n l = AreLists l.n (IsFreePort l.defects.shape l.defects.list) l.lists.items
