use Rattle.machine_defects.proofs.Vocabulary.{◌≡◌, length, wires_of, AreOwnersBefore}
use Rattle.machine_defects.proofs.kept.own_tables.Given as goal

abbrev pub invariant-tables : goal.invariant-tables
invariant-tables l = (length l.owners ≡ wires_of l.shape) × AreOwnersBefore l.shape l.t 0 l.owners
