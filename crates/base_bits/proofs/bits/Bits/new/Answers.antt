use Rattle.std.proofs.Common.{◌∙◌, ap, rules}
use Rattle.base_bits.proofs.WordsLemmas.{no_bits}
use Rattle.base_bits.specs.Words.{bits_of}
use Rattle.base_bits.proofs.bits.Bits.new.Goals as goal

pub returns : goal.returns
returns c = ap (bits_of c.args.len) (c.in_ok-words.ensures.items_if_clones_equal (search rules)) ∙ no_bits c.args.len c.div_ceil-count.result
