use Rattle.design_equal.proofs.Vocabulary.{ℕ, List, length, ap, subst, sym, ◌∙◌, eqb-true, truth, lane_bits, bit_at, Step}
use Rattle.design_equal.specs.Plans.{AreInputs, AreSteps, HaveInputs, HaveWords}
use Rattle.design_equal.proofs.PlanLemmas.{local_bit, met_in}
use Rattle.design_equal.proofs.cover.is_met_in.Goals as goal

pub returns-clause-met : goal.returns-clause-met
returns-clause-met c = λ yes g labels is.
    let plan = c.args.plan.now in
    let pins : List ℕ = c.args.plan.now.pins.items in
    let steps : List Step = c.args.plan.now.steps.items in
    let words : List ℕ = c.fill_words.new.words.items in
    let signals : List ℕ = c.put_inputs.new.signals.items in
    let have : HaveWords g pins steps c.args.pass words (length steps) =
    subst (λ (ss : List Step). HaveWords g pins ss c.args.pass words (length ss)) c.as_slice.ensures.value
    (c.fill_words.ensures.words g pins is.few (subst (λ (ss : List Step). AreSteps g pins ss) (sym c.as_slice.ensures.value) is.steps)) in
    let inputs : HaveInputs g pins c.args.pass c.args.cover.now.ins labels signals (length c.args.cover.now.ins) =
    subst (λ (ins : List ℕ). HaveInputs g pins c.args.pass ins labels signals (length ins)) c.as_slice-2.ensures
    (c.put_inputs.ensures.inputs g pins steps c.args.pass labels
    (subst (λ (ins : List ℕ). AreInputs steps c.as_slice-3.result.now ins labels) (sym c.as_slice-2.ensures)
    (subst (λ (places : List ℕ). AreInputs steps places c.args.cover.now.ins labels) (sym c.as_slice-3.ensures.value) is.ins))
    (subst (λ (ws : List ℕ). HaveWords g pins steps c.args.pass ws (length steps)) (sym c.as_slice-4.ensures.value) have)) in
    met_in g labels c.args.cover.now c.args.plan.now c.args.pass words signals c.cover_word-due.result c.literal_word-word.result
    (eqb-true c.cover_word-due.result c.literal_word-word.result yes) is have inputs
    (λ lane ll. c.cover_word-due.ensures lane ll ∙ ap (λ (ss : List ℕ). truth (bit_at (lane_bits ss lane)) c.args.cover.now) c.as_slice-5.ensures.value)
    (λ lane ll. c.literal_word-word.ensures lane ll ∙ ap (λ (ws : List ℕ). local_bit ws lane c.args.plan.now.root) c.as_slice-6.ensures.value)
