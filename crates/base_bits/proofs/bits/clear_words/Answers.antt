use Rattle.std.proofs.Common.{◌∙◌, arith}
use Rattle.std.proofs.lemmas.List.{length-set}
use Rattle.base_bits.proofs.WordsLemmas.{cleared_next, cleared_all}
use Rattle.base_bits.proofs.bits.clear_words.Goals as goal

pub words-preserved : goal.words-preserved
words-preserved c = record {
  none = cleared_next c.words.words c.words.k (omega (arith, c.words.invariant.len_is)) c.words.invariant.none;
  len_is = length-set c.words.words c.words.k 0 ∙ c.words.invariant.len_is;
}

pub returns-clause-none : goal.returns-clause-none
returns-clause-none c = cleared_all c.words.words c.words.k (omega (arith, c.words.invariant.len_is)) c.words.invariant.none
