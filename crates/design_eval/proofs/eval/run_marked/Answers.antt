use Rattle.std.proofs.Common.{◌≡◌, ℕ, ◌+◌, ◌≤◌, List, length, map, ap, sym, subst, ◌∙◌, arith}
use Rattle.design_eval.proofs.Vocabulary.{bit_at, places, AreFree, AreTaken}
use Rattle.design_eval.proofs.RunLemmas.{step-is, ready-is, below-at, covers-made, inputs-below, latches-below, outputs-below, froms-below, settled-as, inputs-free, latches-free, drives-apart-at, given-inputs, given-settled}
use Rattle.design_eval.proofs.{MarkLemmas.settled-kept, SmallLemmas.quick-covers}
use Rattle.design_eval.proofs.eval.run_marked.Goals as goal

pub put_marked-requires-clause-within : goal.put_marked-requires-clause-within
put_marked-requires-clause-within c = below-at _ _ _ _ (c.deref.ensures.value ∙ c.requires.plan.wiring.inputs) c.requires.ready.signals (inputs-below c.args.netlist.now c.parts-draft.ensures.checked)

pub put_changed-requires-clause-below : goal.put_changed-requires-clause-below
put_changed-requires-clause-below c = below-at _ _ _ _ (c.deref-2.ensures.value ∙ c.requires.plan.wiring.drives) (c.put_marked.auto.values ∙ c.requires.ready.signals) (latches-below c.args.netlist.now c.parts-draft.ensures.checked)

pub settle_marked-count-requires-clause-made : goal.settle_marked-count-requires-clause-made
settle_marked-count-requires-clause-made c = covers-made c.args.netlist.now _ _ c.parts-draft.ensures.checked (c.as_slice.ensures ∙ ap (λ d. d.covers) c.parts-draft.ensures.parts) (c.put_changed.auto.values ∙ c.put_marked.auto.values ∙ c.requires.ready.signals)

pub read_bits-requires-clause-within : goal.read_bits-requires-clause-within
read_bits-requires-clause-within c = below-at _ _ _ _ (c.deref-5.ensures.value ∙ c.requires.plan.wiring.outputs) (c.settle_marked-count.auto.values ∙ c.put_changed.auto.values ∙ c.put_marked.auto.values ∙ c.requires.ready.signals) (outputs-below c.args.netlist.now c.parts-draft.ensures.checked)

pub take_changed-requires-clause-below : goal.take_changed-requires-clause-below
take_changed-requires-clause-below c = below-at _ _ _ _ (c.deref-6.ensures.value ∙ c.requires.plan.wiring.reads) (c.settle_marked-count.auto.values ∙ c.put_changed.auto.values ∙ c.put_marked.auto.values ∙ c.requires.ready.signals) (froms-below c.args.netlist.now c.parts-draft.ensures.checked)

pub returns-clause-ready : goal.returns-clause-ready
returns-clause-ready c =
    ready-is c.args.netlist.now c.parts-draft.ensures.checked c.args.values.now c.args.state.now c.args.vector.now c.requires.ready c.requires.inputs c.settle_marked-count.new.values (settled-as c.args.netlist.now c.parts-draft.ensures.checked c.args.values.now c.args.state.now c.args.vector.now c.requires.ready c.requires.inputs _ _ _ _ c.settle_marked-count.new.values _
    (c.deref.ensures.value ∙ c.requires.plan.wiring.inputs) (c.deref-2.ensures.value ∙ c.requires.plan.wiring.drives) c.put_marked.ensures.values c.put_changed.ensures.values (c.as_slice.ensures ∙ ap (λ d. d.covers) c.parts-draft.ensures.parts) c.settle_marked-count.ensures.settled) c.take_changed.new.state
    (c.settle_marked-count.auto.values ∙ c.put_changed.auto.values ∙ c.put_marked.auto.values ∙ c.requires.ready.signals)
    (c.take_changed.ensures ∙ ap (map (bit_at c.settle_marked-count.new.values)) (c.deref-6.ensures.value ∙ c.requires.plan.wiring.reads))

pub returns-clause-step : goal.returns-clause-step
returns-clause-step c =
    step-is c.args.netlist.now c.parts-draft.ensures.checked c.args.values.now c.args.state.now c.args.vector.now c.requires.ready c.requires.inputs c.settle_marked-count.new.values (settled-as c.args.netlist.now c.parts-draft.ensures.checked c.args.values.now c.args.state.now c.args.vector.now c.requires.ready c.requires.inputs _ _ _ _ c.settle_marked-count.new.values _
    (c.deref.ensures.value ∙ c.requires.plan.wiring.inputs) (c.deref-2.ensures.value ∙ c.requires.plan.wiring.drives) c.put_marked.ensures.values c.put_changed.ensures.values (c.as_slice.ensures ∙ ap (λ d. d.covers) c.parts-draft.ensures.parts) c.settle_marked-count.ensures.settled) c.read_bits.new.out c.take_changed.new.state
    (c.read_bits.ensures ∙ ap (map (bit_at c.settle_marked-count.new.values)) (c.deref-5.ensures.value ∙ c.requires.plan.wiring.outputs))
    (c.take_changed.ensures ∙ ap (map (bit_at c.settle_marked-count.new.values)) (c.deref-6.ensures.value ∙ c.requires.plan.wiring.reads))

pub settle_marked-count-requires-clause-kept : goal.settle_marked-count-requires-clause-kept
settle_marked-count-requires-clause-kept c =
    let d = c.args.netlist.now in
    let order : List ℕ = places c.args.plan.now.turns.items in
    let checked = c.parts-draft.ensures.checked in
    let within = c.requires.plan.turns.order.within in
    let covers = c.as_slice.ensures ∙ ap (λ d. d.covers) c.parts-draft.ensures.parts in
    let first = c.put_marked.ensures.kept d.covers order (length d.names) c.requires.plan.readers
    (subst (AreFree d.covers order) (sym (c.deref.ensures.value ∙ c.requires.plan.wiring.inputs)) (inputs-free d checked order within)) c.requires.marked.kept in
    let second = c.put_changed.ensures.kept d.covers order (length d.names) c.requires.plan.readers
    (subst (AreFree d.covers order) (sym (c.deref-2.ensures.value ∙ c.requires.plan.wiring.drives)) (latches-free d checked order within)) first in
    rw (covers, c.deref-3.ensures.value) second

pub returns-clause-marked : goal.returns-clause-marked
returns-clause-marked c =
    let settled = settled-as c.args.netlist.now c.parts-draft.ensures.checked c.args.values.now c.args.state.now c.args.vector.now c.requires.ready c.requires.inputs _ _ _ _ c.settle_marked-count.new.values _
    (c.deref.ensures.value ∙ c.requires.plan.wiring.inputs) (c.deref-2.ensures.value ∙ c.requires.plan.wiring.drives) c.put_marked.ensures.values c.put_changed.ensures.values (c.as_slice.ensures ∙ ap (λ d. d.covers) c.parts-draft.ensures.parts) c.settle_marked-count.ensures.settled in
    record {
      size = c.take_changed.auto.marks ∙ c.settle_marked-count.ensures.size;
      kept = settled-kept c.args.netlist.now.covers (places c.args.plan.now.turns.items) c.take_changed.new.marks c.settle_marked-count.new.values c.requires.plan.turns.order settled.truths;
    }

pub put_changed-requires-clause-apart : goal.put_changed-requires-clause-apart
put_changed-requires-clause-apart c = drives-apart-at c.args.netlist.now c.parts-draft.ensures.checked _ (c.deref-2.ensures.value ∙ c.requires.plan.wiring.drives)

pub put_changed-requires-clause-given : goal.put_changed-requires-clause-given
put_changed-requires-clause-given c =
    given-inputs c.args.netlist.now c.parts-draft.ensures.checked _ _ c.args.last.now c.args.values.now c.args.vector.now c.put_marked.new.values (c.deref.ensures.value ∙ c.requires.plan.wiring.inputs)
    (c.deref-2.ensures.value ∙ c.requires.plan.wiring.drives) c.put_marked.ensures.values (rw c.deref-2.ensures.value c.requires.given)

pub returns-clause-given : goal.returns-clause-given
returns-clause-given c =
    given-settled c.args.netlist.now c.parts-draft.ensures.checked _ _ c.put_changed.new.last c.put_changed.new.values c.settle_marked-count.new.values c.requires.plan.wiring.drives
    (c.as_slice.ensures ∙ ap (λ d. d.covers) c.parts-draft.ensures.parts) c.settle_marked-count.ensures.settled (rw (← c.deref-2.ensures.value) c.put_changed.ensures.given)

pub take_changed-requires-clause-taken : goal.take_changed-requires-clause-taken
take_changed-requires-clause-taken c =
    let first : ℕ = length c.args.plan.now.turns.items in
    let reads : List ℕ = c.args.plan.now.wiring.reads.items in
    let room : first + length reads ≤ 65536 = omega (arith, c.requires.plan.room) in
    let listed = c.requires.plan.latches in
    let one = c.put_marked.ensures.taken first reads c.args.state.now (omega arith) room listed c.requires.taken in
    let two = c.put_changed.ensures.taken first reads c.args.state.now (omega arith) room listed one in
    let three = c.settle_marked-count.ensures.taken first reads c.args.state.now (omega (arith, ap (λ ts. length ts) c.deref-3.ensures.value)) room listed two in
    subst (λ (n : ℕ). AreTaken n c.deref-6.result.now c.args.state.now c.settle_marked-count.new.marks c.settle_marked-count.new.values) (let e : first ≡ c.len.result = omega (arith, c.len.ensures, c.deref-3.ensures.len, ap (λ ts. length ts) c.deref-3.ensures.value) in e)
    (subst (λ (xs : List ℕ). AreTaken first xs c.args.state.now c.settle_marked-count.new.marks c.settle_marked-count.new.values) (sym c.deref-6.ensures.value) three)

pub settle_marked-count-requires-clause-quicks : goal.settle_marked-count-requires-clause-quicks
settle_marked-count-requires-clause-quicks c =
    quick-covers c.args.netlist.now.covers _ c.args.plan.now.turns.items _ c.args.plan.now.quicks.items _ (sym (c.as_slice.ensures ∙ ap (λ d. d.covers) c.parts-draft.ensures.parts))
    (sym c.deref-3.ensures.value) (sym c.deref-4.ensures.value) c.requires.plan.quicks
