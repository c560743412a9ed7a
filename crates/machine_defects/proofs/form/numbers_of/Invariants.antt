use Rattle.machine_defects.proofs.Numerals.{AreReadTo}
use Rattle.machine_defects.proofs.form.numbers_of.Given as goal

abbrev pub invariant-numbers : goal.invariant-numbers
invariant-numbers l = AreReadTo l.text l.numbers l.i l.left
