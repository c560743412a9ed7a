use Rattle.std.proofs.Common.{◌∙◌, ap, sym, arith, replicate, false, length}
use Rattle.std.proofs.lemmas.List.{with_items_is}
use Rattle.base_bits.specs.Words.{bits_of}
use Rattle.base_bits.proofs.WordsLemmas.{none_set, length-bits_of}
use Rattle.base_bits.proofs.bits.Bits.clear.Goals as goal

pub returns : goal.returns
returns c =
    ap (bits_of c.self.inside.len) (with_items_is c.self.inside.words c.clear_words.new.words (omega (arith, c.clear_words.auto.words, c.deref_mut.ensures.len)))
    ∙ none_set c.self.inside.len c.clear_words.new.words c.clear_words.ensures.none
    ∙ ap (λ n. replicate n false) (sym (length-bits_of c.self.inside.len c.self.inside.words.items) ∙ ap length c.self.view_is)
