use Rattle.map_network.specs.Levels.{IsMost, source_level}
use Rattle.map_network.proofs.longest.most.Given as goal

abbrev pub invariant-ins : goal.invariant-ins
invariant-ins l = IsMost (source_level l.marks l.ins) l.k l.best
