use Rattle.map_eval.proofs.Vocabulary.{◌∙◌, List, Bool, refl, sym, ap, length, subst, HaveInputs, HaveTakenTo}
use Rattle.map_eval.proofs.{BusyLemmas.shaped_by, StateLemmas.whole_items}
use Rattle.map_eval.proofs.busy.take_busy.Goals as goal

pub returns-clause-shaped : goal.returns-clause-shaped
returns-clause-shaped c =
    let same = c.take_bits.ensures.len ∙ ap length c.deref_mut.ensures.value in
    shaped_by c.args.plan.now c.args.state.now _ c.requires.shaped c.requires.shaped.inputs (ap length (whole_items c.args.state.now.values c.take_bits.new.values same) ∙ same) refl refl refl

pub returns-clause-taken : goal.returns-clause-taken
returns-clause-taken c = λ inputs have. (
    let n = c.args.plan.now.network in
    let same = c.take_bits.ensures.len ∙ ap length c.deref_mut.ensures.value in
    subst (HaveTakenTo n (length n.tables) inputs c.args.busy.now.bits.items) (sym (whole_items c.args.state.now.values c.take_bits.new.values same))
    (subst (λ (bits : List Bool). HaveTakenTo n (length n.tables) inputs bits c.take_bits.new.values) c.deref-2.ensures.value (c.take_bits.ensures.taken inputs (subst (HaveInputs n inputs) (sym c.deref-2.ensures.value) have))))
