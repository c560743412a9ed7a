use Rattle.std.proofs.Common.{Option}
use Rattle.diag_growth.proofs.Vocabulary.{Faults}
use Rattle.diag_growth.proofs.Testing.{AreTested}
use Rattle.diag_growth.proofs.tables.need_no_tests.Given as goal

abbrev pub invariant-tables : goal.invariant-tables
invariant-tables l = (told : Option Faults) → AreTested told l.facts l.facts l.known.steps l.tables l.i
