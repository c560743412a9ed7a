use Rattle.machine_defects.proofs.Vocabulary.{◌≡◌, ◌++◌, take, numerals}
use Rattle.machine_defects.proofs.write.put_numbers.Given as goal

abbrev pub invariant-numbers : goal.invariant-numbers
invariant-numbers l = l.text.items ≡ l.fn.text.items ++ numerals (take l.n-index l.numbers)
