use Rattle.std.proofs.Common.{ap, arith, length}
use Rattle.base_bits.proofs.WordsLemmas.{length-bits_of}
use Rattle.base_bits.proofs.bits.Bits.put.Goals as goal

pub put_bit-requires : goal.put_bit-requires
put_bit-requires c =
    let len = length-bits_of c.self.inside.len c.self.inside.words.items in
    omega (arith, len, ap length c.self.view_is, ap length c.deref_mut.ensures.value)
