use Rattle.design_eval.proofs.Vocabulary.{refl, ap, sym, ◌∙◌, length, length-map}
use Rattle.design_eval.proofs.RunLemmas.{held-first, ready-first, marked-first}
use Rattle.design_eval.proofs.eval.Eval.start.Goals as goal

pub invariant_of-result : goal.invariant_of-result
invariant_of-result c = (
  c.in_ok-plan.ensures,
  ready-first c.args.netlist.now c.parts-draft.result.now c.as_slice.result.now c.in_ok-values.values.items c.in_ok-state.state.items c.len.result c.parts-draft.ensures.parts
      c.len.ensures (c.in_ok-values.ensures.items_if_clones_equal (λ y e. e)) c.as_slice.ensures c.in_ok-state.ensures,
  marked-first c.args.netlist.now c.in_ok-plan.plan c.in_ok-marks.marks.items c.in_ok-values.values.items 65536 c.in_ok-plan.ensures refl
      (c.in_ok-marks.ensures.items_if_clones_equal (λ y e. e)),
  held-first c.in_ok-plan.plan c.in_ok-hints.hints.items 18446744073709551615 _ c.in_ok-marks.marks.items c.in_ok-last.last.items c.in_ok-values.values.items c.in_ok-state.state.items _
      c.in_ok-plan.ensures.room (c.in_ok-hints.ensures.items_if_clones_equal (λ y e. e)) (c.in_ok-marks.ensures.items_if_clones_equal (λ y e. e)) (c.in_ok-last.ensures.items_if_clones_equal (λ y e. e)) (c.in_ok-values.ensures.items_if_clones_equal (λ y e. e))
      (ap (λ xs. length xs) c.in_ok-state.ensures ∙ length-map _ _ ∙ ap (λ xs. length xs) c.as_slice.ensures ∙ sym (ap (λ xs. length xs) c.as_slice-2.ensures)),
  c.in_ok-block.ensures,
)
