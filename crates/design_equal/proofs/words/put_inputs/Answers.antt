use Rattle.design_equal.proofs.Vocabulary.{ℕ, length, ap, ◌∙◌, arith, length-set, number_at, label_at}
use Rattle.design_equal.proofs.PlanLemmas.{local_bit, more_inputs, stands}
use Rattle.design_equal.proofs.words.put_inputs.Goals as goal

pub ins-preserved : goal.ins-preserved
ins-preserved c = (
  length-set c.ins.signals.items (number_at c.args.ins.now c.ins.k) c.literal_word-word.result ∙ c.ins.invariant.0,
  λ g pins steps pass labels inputs have. more_inputs g pins pass c.args.ins.now labels c.ins.signals.items c.ins.k c.literal_word-word.result
      (omega (arith, c.ins.invariant.0, c.requires c.ins.k c.ins-test.true))
      (c.ins.invariant.1 g pins steps pass labels inputs have)
      (λ bits lane at. c.literal_word-word.ensures lane at.within
      ∙ ap (λ (local : ℕ). local_bit c.args.words.now lane local) c.number_at-local.ensures
      ∙ stands steps c.args.words.now (length steps) (number_at c.args.places.now c.ins.k) (label_at labels (number_at c.args.ins.now c.ins.k)) lane bits
      (inputs c.ins.k c.ins-test.true) (have bits lane at)),
)

pub returns-clause-inputs : goal.returns-clause-inputs
returns-clause-inputs c = λ g pins steps pass labels inputs have bits lane at k lk. c.ins.invariant.1 g pins steps pass labels inputs have bits lane at k (omega (arith, c.ins-test.false))
