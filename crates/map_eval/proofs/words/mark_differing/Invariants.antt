use Rattle.map_eval.proofs.Vocabulary.{◌≡◌, length, AreMarkedTo}
use Rattle.map_eval.proofs.words.mark_differing.Given as goal

abbrev pub invariant-tables : goal.invariant-tables
invariant-tables l = (length l.marks ≡ length l.fn.marks) × AreMarkedTo l.masks l.addresses l.table l.marks
