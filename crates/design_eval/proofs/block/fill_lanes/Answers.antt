use Rattle.std.proofs.Common.{arith, ap, ◌∙◌}
use Rattle.design_eval.proofs.{BlockLemmas.block-filled, RunLemmas.below-at, RunLemmas.inputs-below}
use Rattle.design_eval.proofs.block.fill_lanes.Goals as goal

pub put_columns-requires-clause-within : goal.put_columns-requires-clause-within
put_columns-requires-clause-within c = below-at _ _ _ _ (c.deref.ensures.value ∙ c.requires.plan.wiring.inputs) c.requires.block.size (inputs-below c.args.netlist.now c.parts.ensures.checked)

pub returns-clause-block : goal.returns-clause-block
returns-clause-block c =
    block-filled c.args.netlist.now c.parts.ensures.checked c.args.block.now _ c.deref.result.now c.put_columns.new.words.items c.as_slice-covers.result.now
    (c.deref.ensures.value ∙ c.requires.plan.wiring.inputs) (c.as_slice-covers.ensures ∙ ap (λ d. d.covers) c.parts.ensures.parts) c.requires.block
    c.put_columns.ensures.size c.put_columns.ensures.kept c.settle_words.ensures.size c.settle_words.ensures.settled (omega (arith, c.requires.lines))
