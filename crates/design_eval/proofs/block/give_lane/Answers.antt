use Rattle.design_eval.proofs.Vocabulary.{◌≡◌, ℕ, List, map, length, refl, ap, subst, ◌∙◌, bit_at, lane_bits}
use Rattle.design_eval.proofs.{BlockLemmas.row-of-lane, RunLemmas.below-at, RunLemmas.inputs-below, RunLemmas.outputs-below}
use Rattle.design_eval.proofs.block.give_lane.Goals as goal

pub stand_in-requires-clause-within : goal.stand_in-requires-clause-within
stand_in-requires-clause-within c =
    below-at _ _ _ _ (c.deref-2.ensures.value ∙ c.requires.plan.wiring.inputs) (ap (λ (ws : List ℕ). length ws) c.deref.ensures.value ∙ c.requires.block.size)
    (inputs-below c.args.netlist.now c.parts-draft.ensures.checked)

pub read_lane-requires-clause-within : goal.read_lane-requires-clause-within
read_lane-requires-clause-within c =
    below-at _ _ _ _ (c.deref-4.ensures.value ∙ c.requires.plan.wiring.outputs) (ap (λ (ws : List ℕ). length ws) c.deref-3.ensures.value ∙ c.requires.block.size)
    (outputs-below c.args.netlist.now c.parts-draft.ensures.checked)

pub returns : goal.returns
returns c = λ _.
    row-of-lane c.args.netlist.now c.args.block.now c.args.lane c.deref-2.result.now c.deref-4.result.now c.args.vector.now c.read_lane.new.out c.requires.block c.requires.lane c.requires.latches
    (c.deref-2.ensures.value ∙ c.requires.plan.wiring.inputs) (c.deref-4.ensures.value ∙ c.requires.plan.wiring.outputs)
    (subst (λ (ws : List ℕ). map (bit_at (lane_bits ws c.args.lane)) c.deref-2.result.now ≡ c.args.vector.now) c.deref.ensures.value (c.if-not-stand_in.ensures refl))
    (c.read_lane.ensures ∙ ap (λ (ws : List ℕ). map (bit_at (lane_bits ws c.args.lane)) c.deref-4.result.now) c.deref-3.ensures.value)
