use Rattle.std.proofs.Common.{◌∙◌, ap, sym, length}
use Rattle.base_bits.proofs.WordsLemmas.{length-bits_of}
use Rattle.base_bits.proofs.bits.Bits.len.Goals as goal

pub returns : goal.returns
returns c = sym (length-bits_of c.self.inside.len c.self.inside.words.items) ∙ ap length c.self.view_is
