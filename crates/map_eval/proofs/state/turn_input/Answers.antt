use Rattle.map_eval.proofs.Vocabulary.{◌≡◌, ◌+◌, ◌∙◌, ℕ, [], length, refl, ap, arith, false, get_or_default, pins_at}
use Rattle.map_eval.proofs.StateLemmas.{pins_ready, pins_apart, whole_items, input_kept}
use Rattle.map_eval.proofs.state.turn_input.Goals as goal

-- the pins are those of the input's number
pins_are : (c : goal.After-deref_mut-2) → c.as_slice-2.result.now ≡ pins_at c.args.plan.now.pins.items (length c.args.plan.now.network.tables + c.args.input)
pins_are c =
    let e = ap length c.as_slice.ensures in
    let l = c.requires.plan.pins.len in
    let i = c.requires.within in
    c.as_slice-2.ensures ∙ c.index-2.ensures ∙ get_or_default c.args.plan.now.pins.items (length c.as_slice.result.now + c.args.input) c.index-2.result.now [] (omega arith) ∙ ap (λ (n : ℕ). pins_at c.args.plan.now.pins.items (n + c.args.input)) e

pub turn_pins-requires-clause-pins : goal.turn_pins-requires-clause-pins
turn_pins-requires-clause-pins c =
    pins_ready c.args.plan.now (length c.args.plan.now.network.tables + c.args.input) c.as_slice-2.result.now c.deref_mut.result.now c.requires.plan (pins_are c) (ap length c.deref_mut.ensures.value ∙ c.requires.kept.sized.pins.len)

pub turn_pins-requires-clause-apart : goal.turn_pins-requires-clause-apart
turn_pins-requires-clause-apart c = pins_apart c.args.plan.now (length c.args.plan.now.network.tables + c.args.input) c.as_slice-2.result.now c.requires.plan (pins_are c)

pub returns-clause-kept : goal.returns-clause-kept
returns-clause-kept c =
    let e = ap length c.as_slice.ensures in
    let l = c.requires.plan.pins.len in
    let i = c.requires.within in
    let n = c.requires.kept.sized.inputs in
    input_kept c.args.plan.now c.args.state.now _ c.args.input c.index.result.now c.as_slice-2.result.now c.deref_mut.result.now c.deref.result.now c.deref_mut-2.result.now c.requires.plan c.requires.kept c.requires.within
    (c.index.ensures ∙ get_or_default c.args.state.now.inputs.items c.args.input c.index.result.now false (omega arith))
    refl refl refl
    (c.as_slice-2.ensures ∙ c.index-2.ensures ∙ get_or_default c.args.plan.now.pins.items (length c.as_slice.result.now + c.args.input) c.index-2.result.now [] (omega arith) ∙ ap (λ (n : ℕ). pins_at c.args.plan.now.pins.items (n + c.args.input)) e)
    c.deref_mut.ensures.value c.deref.ensures.value c.deref_mut-2.ensures.value c.turn_pins.new.addresses c.turn_pins.new.marks (whole_items c.args.state.now.addresses c.turn_pins.new.addresses (c.turn_pins.ensures.turned.len ∙ ap length c.deref_mut.ensures.value)) (whole_items c.args.state.now.marks c.turn_pins.new.marks (c.turn_pins.ensures.len ∙ ap length c.deref_mut-2.ensures.value)) c.turn_pins.ensures.turned c.turn_pins.ensures.len c.turn_pins.ensures.marked
