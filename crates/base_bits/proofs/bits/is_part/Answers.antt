use Rattle.base_bits.proofs.WordsLemmas.{part_of}
use Rattle.base_bits.proofs.bits.is_part.Goals as goal

pub returns : goal.returns
returns c = λ none k within on. part_of c.args.word c.args.other k c.ranges.other.fits none within on
