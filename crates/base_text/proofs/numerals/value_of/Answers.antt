use Rattle.base_text.proofs.NumberLemmas.{past}
use Rattle.base_text.proofs.numerals.value_of.Goals as goal

pub returns-in_default : goal.returns-in_default
returns-in_default c = λ _. past c.args.word.now c.digits.b-index c.digits.number c.args.most c.digits-test.true c.digits.invariant.value c.in_default.ensures
