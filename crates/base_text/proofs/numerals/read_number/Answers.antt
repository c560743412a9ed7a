use Rattle.base_text.proofs.Vocabulary.{arith, refl, false≢true}
use Rattle.base_text.proofs.NumberLemmas.{not_plain, some_is, none_is}
use Rattle.base_text.proofs.numerals.read_number.Goals as goal

pub returns-then-not-is_plain-clause-none : goal.returns-then-not-is_plain-clause-none
returns-then-not-is_plain-clause-none c = not_plain c.args.word.now c.args.most (omega arith) (λ p. false≢true (c.if-not-is_plain.ensures.1 p))

pub returns-clause-some : goal.returns-clause-some
returns-clause-some c = some_is c.args.word.now c.args.most c.value_of.result (omega arith) (c.if-not-is_plain.ensures.0 refl) c.value_of.ensures

pub returns-clause-none : goal.returns-clause-none
returns-clause-none c = none_is c.args.word.now c.args.most c.value_of.result (omega arith) c.value_of.ensures
