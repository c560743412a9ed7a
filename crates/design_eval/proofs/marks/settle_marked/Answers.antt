use Rattle.design_eval.proofs.Vocabulary.{length, refl, arith, ◌∙◌, places}
use Rattle.design_eval.proofs.{TurnLemmas.turns-size, MarkLemmas.settled-of, MarkLemmas.others-more, MarkLemmas.taken-both}
use Rattle.design_eval.proofs.marks.settle_marked.Goals as goal

pub returns-else-is_one_marked-clause-settled : goal.returns-else-is_one_marked-clause-settled
returns-else-is_one_marked-clause-settled c =
    let inv = c.words.invariant in
    settled-of c.args.plan.now.covers.now (places c.args.plan.now.turns.now) c.words.marks c.args.values.now c.words.values c.requires.turns.order inv.3
    (λ k lk. c.if-is_one_marked.ensures refl k (omega arith) (omega (arith, lk, turns-size c.args.plan.now.turns.now))) inv.4

pub words-preserved : goal.words-preserved
words-preserved c = (
  c.settle_word-count.auto.values ∙ c.words.invariant.0,
  c.settle_word-count.ensures.size,
  c.settle_word-count.auto.hints ∙ c.words.invariant.2,
  c.settle_word-count.ensures.kept,
  others-more c.args.plan.now.covers.now c.args.values.now c.words.values c.settle_word-count.new.values c.words.invariant.4 c.settle_word-count.ensures.others,
  taken-both (length c.args.plan.now.turns.now) c.args.plan.now.readers.now c.args.marks.now c.args.values.now c.words.marks c.words.values c.settle_word-count.new.marks
      c.settle_word-count.new.values c.words.invariant.5 c.settle_word-count.ensures.taken,
  omega (arith, c.words.invariant.6, c.settle_word-count.ensures.few),
)
