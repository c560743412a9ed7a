use Rattle.base_bits.proofs.WordsLemmas.{bits_of-set}
use Rattle.base_bits.proofs.bits.put_bit.Goals as goal

pub returns-clause-bits : goal.returns-clause-bits
returns-clause-bits c = λ len _. bits_of-set c.args.words.now c.args.i c.word_with.result c.args.bit len c.requires c.word_with.ensures.this c.word_with.ensures.others
