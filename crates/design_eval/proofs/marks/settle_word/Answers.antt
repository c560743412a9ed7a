use Rattle.design_eval.proofs.Vocabulary.{length, ◌∙◌, length-set}
use Rattle.design_eval.proofs.MarkLemmas.{others-more, taken-both}
use Rattle.design_eval.proofs.marks.settle_word.Goals as goal

pub bits-preserved : goal.bits-preserved
bits-preserved c = (
  c.settle_turn.auto.values ∙ c.bits.invariant.0,
  c.settle_turn.ensures.size,
  c.settle_turn.auto.hints ∙ length-set c.bits.hints c.args.place _ ∙ c.bits.invariant.2,
  c.settle_turn.ensures.kept,
  others-more c.args.plan.now.covers.now c.args.values.now c.bits.values c.settle_turn.new.values c.bits.invariant.4 c.settle_turn.ensures.others,
  taken-both (length c.args.plan.now.turns.now) c.args.plan.now.readers.now c.args.marks.now c.args.values.now c.bits.marks c.bits.values c.settle_turn.new.marks c.settle_turn.new.values c.bits.invariant.5
      c.settle_turn.ensures.taken,
)
