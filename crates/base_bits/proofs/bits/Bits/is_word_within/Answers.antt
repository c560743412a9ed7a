use Rattle.std.proofs.Common.{◌≡◌, ◌∙◌, false, true, ap, sym, arith, length, get_or}
use Rattle.base_bits.specs.Words.{bits_of, is_bit_in}
use Rattle.base_bits.proofs.WordsLemmas.{length-bits_of, part_in}
use Rattle.base_bits.proofs.bits.Bits.is_word_within.Goals as goal

pub returns : goal.returns
returns c = λ yes i at on.
    let one = length-bits_of c.self.inside.len c.self.inside.words.items in
    let same : c.other.inside.len ≡ c.self.inside.len = omega (arith, c.requires, one, length-bits_of c.other.inside.len c.other.inside.words.items, ap length c.self.view_is, ap length c.other.view_is) in
    let part : is_bit_in c.self.inside.words.items i ≡ true → is_bit_in c.other.inside.words.items i ≡ true =
    (λ h. ap (λ ws. is_bit_in ws i) (sym c.deref-2.ensures.value) ∙ c.is_part_at.ensures yes i at (ap (λ ws. is_bit_in ws i) c.deref.ensures.value ∙ h)) in
    ap (λ bits. get_or bits i false) (sym c.other.view_is)
    ∙ ap (λ n. get_or (bits_of n c.other.inside.words.items) i false) same
    ∙ part_in c.self.inside.words.items c.other.inside.words.items c.self.inside.len i part (ap (λ bits. get_or bits i false) c.self.view_is ∙ on)
