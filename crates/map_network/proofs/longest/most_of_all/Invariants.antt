use Rattle.map_network.specs.Levels.{IsMost, level_at}
use Rattle.map_network.proofs.longest.most_of_all.Given as goal

abbrev pub invariant-marks : goal.invariant-marks
invariant-marks l = IsMost (level_at l.marks) l.k l.best
