use Rattle.map_network.specs.Levels.{AreMarks}
use Rattle.map_network.proofs.longest.marks_of.Given as goal

abbrev pub invariant-tables : goal.invariant-tables
invariant-tables l = AreMarks l.tables l.j l.marks.items
