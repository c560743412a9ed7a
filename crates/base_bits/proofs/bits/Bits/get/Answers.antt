use Rattle.std.proofs.Common.{◌<◌, ◌∙◌, false, ap, sym, arith, length, get_or}
use Rattle.base_bits.specs.Words.{is_bit_in}
use Rattle.base_bits.proofs.WordsLemmas.{length-bits_of, get_or-bits_of}
use Rattle.base_bits.proofs.bits.Bits.get.Goals as goal

pub bit_at-requires : goal.bit_at-requires
bit_at-requires c =
    let len = length-bits_of c.self.inside.len c.self.inside.words.items in
    omega (arith, len, ap length c.self.view_is, ap length c.deref.ensures.value)

pub returns : goal.returns
returns c =
    let within : c.args.i < c.self.inside.len = omega (arith, length-bits_of c.self.inside.len c.self.inside.words.items, ap length c.self.view_is) in
    c.bit_at.ensures ∙ ap (λ ws. is_bit_in ws c.args.i) c.deref.ensures.value
    ∙ sym (get_or-bits_of c.self.inside.len c.self.inside.words.items c.args.i false within)
    ∙ ap (λ bits. get_or bits c.args.i false) c.self.view_is
