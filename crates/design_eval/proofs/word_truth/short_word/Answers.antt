use Rattle.design_eval.proofs.Vocabulary.{length, sym, refl, ◌∙◌, bit_at, lane_bits}
use Rattle.design_eval.proofs.TableWordLemmas.{table-truth}
use Rattle.design_eval.proofs.word_truth.short_word.Goals as goal

pub table_word-requires-clause-within : goal.table_word-requires-clause-within
table_word-requires-clause-within c = c.requires.table.below (length c.args.words.now) c.requires.made

pub returns : goal.returns
returns c = λ j lj.
    c.table_word.ensures j lj ∙
    table-truth c.args.table.now c.args.cover.now c.inputs_of-count.result (bit_at (lane_bits c.args.words.now j)) c.requires.table c.requires.apart
    (λ k lk e. c.inputs_of-count.ensures.others k lk (e ∙ sym c.requires.out))
    (λ k ge lk. c.if-not-are_out.ensures refl k ge lk ∙ c.requires.out)
