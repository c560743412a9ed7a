use Rattle.design_equal.proofs.Vocabulary.{ℕ, List, subst, sym, ◌∙◌, arith, length-set, HaveWords}
use Rattle.design_equal.proofs.PlanLemmas.{more_words}
use Rattle.design_equal.proofs.words.fill_words.Goals as goal

pub steps-preserved : goal.steps-preserved
steps-preserved c = (
  length-set c.steps.words.items c.steps.k c.step_word-word.result ∙ c.steps.invariant.0,
  λ g pins few steps. more_words g pins c.args.steps.now c.args.pass c.steps.words.items c.steps.k c.step_word-word.result (omega (arith, c.steps.invariant.0, c.steps-test.true))
      (c.steps.invariant.1 g pins few steps)
      (λ bits lane at. c.step_word-word.ensures g pins c.args.steps.now c.steps.k few (steps c.steps.k c.steps-test.true)
      (subst (λ (ws : List ℕ). HaveWords g pins c.args.steps.now c.args.pass ws c.steps.k) (sym c.as_slice.ensures.value) (c.steps.invariant.1 g pins few steps)) bits lane at),
)

pub returns-clause-words : goal.returns-clause-words
returns-clause-words c = λ g pins few steps bits lane at i li. c.steps.invariant.1 g pins few steps bits lane at i (omega (arith, c.steps-test.false))
