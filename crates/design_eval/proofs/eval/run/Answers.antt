use Rattle.design_eval.proofs.Vocabulary.{map, ap, ◌∙◌, bit_at}
use Rattle.design_eval.proofs.RunLemmas.{step-is, ready-is, below-at, covers-made, inputs-below, latches-below, outputs-below, froms-below, settled-as, given-put, given-settled}
use Rattle.design_eval.proofs.eval.run.Goals as goal

pub put_bits-requires-clause-within : goal.put_bits-requires-clause-within
put_bits-requires-clause-within c = below-at _ _ _ _ (c.deref.ensures.value ∙ c.requires.plan.wiring.inputs) c.requires.ready.signals (inputs-below c.args.netlist.now c.parts-draft.ensures.checked)

pub put_bits-requires-2-clause-within : goal.put_bits-requires-2-clause-within
put_bits-requires-2-clause-within c = below-at _ _ _ _ (c.deref-2.ensures.value ∙ c.requires.plan.wiring.drives) (c.put_bits.auto.values ∙ c.requires.ready.signals) (latches-below c.args.netlist.now c.parts-draft.ensures.checked)

pub settle-requires-clause-made : goal.settle-requires-clause-made
settle-requires-clause-made c = covers-made c.args.netlist.now _ _ c.parts-draft.ensures.checked (c.as_slice.ensures ∙ ap (λ d. d.covers) c.parts-draft.ensures.parts) (c.put_bits-2.auto.values ∙ c.put_bits.auto.values ∙ c.requires.ready.signals)

pub read_bits-requires-clause-within : goal.read_bits-requires-clause-within
read_bits-requires-clause-within c = below-at _ _ _ _ (c.deref-4.ensures.value ∙ c.requires.plan.wiring.outputs) (c.settle.auto.values ∙ c.put_bits-2.auto.values ∙ c.put_bits.auto.values ∙ c.requires.ready.signals) (outputs-below c.args.netlist.now c.parts-draft.ensures.checked)

pub read_bits-requires-2-clause-within : goal.read_bits-requires-2-clause-within
read_bits-requires-2-clause-within c = below-at _ _ _ _ (c.deref-5.ensures.value ∙ c.requires.plan.wiring.reads) (c.settle.auto.values ∙ c.put_bits-2.auto.values ∙ c.put_bits.auto.values ∙ c.requires.ready.signals) (froms-below c.args.netlist.now c.parts-draft.ensures.checked)

pub returns-clause-ready : goal.returns-clause-ready
returns-clause-ready c =
    ready-is c.args.netlist.now c.parts-draft.ensures.checked c.args.values.now c.args.state.now c.args.vector.now c.requires.ready c.requires.inputs c.settle.new.values (settled-as c.args.netlist.now c.parts-draft.ensures.checked c.args.values.now c.args.state.now c.args.vector.now c.requires.ready c.requires.inputs _ _ _ _ c.settle.new.values _
    (c.deref.ensures.value ∙ c.requires.plan.wiring.inputs) (c.deref-2.ensures.value ∙ c.requires.plan.wiring.drives) c.put_bits.ensures c.put_bits-2.ensures (c.as_slice.ensures ∙ ap (λ d. d.covers) c.parts-draft.ensures.parts) c.settle.ensures) c.read_bits-2.new.out
    (c.settle.auto.values ∙ c.put_bits-2.auto.values ∙ c.put_bits.auto.values ∙ c.requires.ready.signals)
    (c.read_bits-2.ensures ∙ ap (map (bit_at c.settle.new.values)) (c.deref-5.ensures.value ∙ c.requires.plan.wiring.reads))

pub returns-clause-hold : goal.returns-clause-hold
returns-clause-hold c =
    (settled-as c.args.netlist.now c.parts-draft.ensures.checked c.args.values.now c.args.state.now c.args.vector.now c.requires.ready c.requires.inputs _ _ _ _ c.settle.new.values _
    (c.deref.ensures.value ∙ c.requires.plan.wiring.inputs) (c.deref-2.ensures.value ∙ c.requires.plan.wiring.drives) c.put_bits.ensures c.put_bits-2.ensures (c.as_slice.ensures ∙ ap (λ d. d.covers) c.parts-draft.ensures.parts) c.settle.ensures).truths

pub returns-clause-step : goal.returns-clause-step
returns-clause-step c =
    step-is c.args.netlist.now c.parts-draft.ensures.checked c.args.values.now c.args.state.now c.args.vector.now c.requires.ready c.requires.inputs c.settle.new.values (settled-as c.args.netlist.now c.parts-draft.ensures.checked c.args.values.now c.args.state.now c.args.vector.now c.requires.ready c.requires.inputs _ _ _ _ c.settle.new.values _
    (c.deref.ensures.value ∙ c.requires.plan.wiring.inputs) (c.deref-2.ensures.value ∙ c.requires.plan.wiring.drives) c.put_bits.ensures c.put_bits-2.ensures (c.as_slice.ensures ∙ ap (λ d. d.covers) c.parts-draft.ensures.parts) c.settle.ensures) c.read_bits.new.out c.read_bits-2.new.out
    (c.read_bits.ensures ∙ ap (map (bit_at c.settle.new.values)) (c.deref-4.ensures.value ∙ c.requires.plan.wiring.outputs))
    (c.read_bits-2.ensures ∙ ap (map (bit_at c.settle.new.values)) (c.deref-5.ensures.value ∙ c.requires.plan.wiring.reads))

pub returns-clause-given : goal.returns-clause-given
returns-clause-given c =
    rw c.copy_from_slice.ensures.after (given-settled c.args.netlist.now c.parts-draft.ensures.checked _ _ c.args.state.now c.put_bits-2.new.values c.settle.new.values c.requires.plan.wiring.drives
    (c.as_slice.ensures ∙ ap (λ d. d.covers) c.parts-draft.ensures.parts) c.settle.ensures
    (given-put c.args.netlist.now c.parts-draft.ensures.checked _ _ c.put_bits.new.values c.put_bits-2.new.values c.args.state.now c.requires.plan.wiring.drives c.deref-2.ensures.value c.put_bits-2.ensures
    (c.put_bits.auto.values ∙ c.requires.ready.signals) c.requires.ready.latches))
