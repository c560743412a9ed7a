use Rattle.design_eval.proofs.Vocabulary.{ℕ, List, length, map, ap, refl, arith, ◌∙◌, subst, length-map, IsOrder, Turn, places, AreQuick}
use Rattle.design_eval.proofs.TurnLemmas.{turns-size}
use Rattle.design_eval.proofs.RunLemmas.{covers-made, plan-is, room-is, froms-below, below-at}
use Rattle.design_eval.proofs.plan.plan_of.Goals as goal

pub turns_of-requires-clause-made : goal.turns_of-requires-clause-made
turns_of-requires-clause-made c = λ i li. (length c.args.netlist.now.names, covers-made c.args.netlist.now c.as_slice-covers.result.now (length c.args.netlist.now.names) c.parts-draft.ensures.checked (c.as_slice-covers.ensures ∙ ap (λ d. d.covers) c.parts-draft.ensures.parts) refl i li)

pub readers_of-requires-clause-few : goal.readers_of-requires-clause-few
readers_of-requires-clause-few c =
    let turns : List Turn = c.in_ok-turns.turns.items in
    let order = subst (λ cs. IsOrder cs (places turns)) (c.as_slice-covers.ensures ∙ ap (λ d. d.covers) c.parts-draft.ensures.parts) c.in_ok-turns.ensures.order in
    omega (
      arith,
      turns-size turns,
      room-is c.args.netlist.now c.parts-draft.ensures.checked (places turns) order,
      ap (λ (ts : List Turn). length ts) c.deref.ensures.value,
      ap (λ (xs : List ℕ). length xs) c.deref-2.ensures.value,
      ap (λ (xs : List ℕ). length xs) c.in_ok-wiring.ensures.reads,
      length-map c.parts-draft.result.now.latches (λ l. l.from),
      ap (λ d. length d.latches) c.parts-draft.ensures.parts,
    )

pub readers_of-requires-clause-reads : goal.readers_of-requires-clause-reads
readers_of-requires-clause-reads c =
    below-at _ _ _ _ (c.deref-2.ensures.value ∙ c.in_ok-wiring.ensures.reads ∙ ap (λ d. map (λ l. l.from) d.latches) c.parts-draft.ensures.parts)
    (c.len.ensures ∙ ap (λ d. length d.names) c.parts-draft.ensures.parts) (froms-below c.args.netlist.now c.parts-draft.ensures.checked)

pub returns : goal.returns
returns c =
    let turns : List Turn = c.in_ok-turns.turns.items in
    let order = subst (λ cs. IsOrder cs (places turns)) (c.as_slice-covers.ensures ∙ ap (λ d. d.covers) c.parts-draft.ensures.parts) c.in_ok-turns.ensures.order in
    plan-is c.args.netlist.now c.parts-draft.result.now c.as_slice-covers.result.now _ c.deref.result.now c.deref-2.result.now c.len.result c.parts-draft.ensures.parts c.as_slice-covers.ensures
    c.deref.ensures.value c.deref-2.ensures.value c.len.ensures c.in_ok-wiring.ensures c.in_ok-turns.ensures (omega (arith, turns-size turns, room-is c.args.netlist.now c.parts-draft.ensures.checked (places turns) order, ap (λ (ts : List Turn). length ts) c.deref.ensures.value, ap (λ (xs : List ℕ). length xs) c.deref-2.ensures.value, ap (λ (xs : List ℕ). length xs) c.in_ok-wiring.ensures.reads, length-map c.parts-draft.result.now.latches (λ l. l.from), ap (λ d. length d.latches) c.parts-draft.ensures.parts)) c.in_ok-readers.ensures.covers
    c.in_ok-readers.ensures.latches
    (subst (λ (ts : List Turn). AreQuick c.as_slice-covers.result.now ts c.in_ok-quicks.quicks.items) c.deref-3.ensures.value c.in_ok-quicks.ensures)

pub quick_turns-requires-clause-made : goal.quick_turns-requires-clause-made
quick_turns-requires-clause-made c = λ i li. (length c.args.netlist.now.names, covers-made c.args.netlist.now c.as_slice-covers.result.now (length c.args.netlist.now.names) c.parts-draft.ensures.checked (c.as_slice-covers.ensures ∙ ap (λ d. d.covers) c.parts-draft.ensures.parts) refl i li)
