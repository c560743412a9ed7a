use Rattle.map_eval.proofs.Vocabulary.{◌∙◌, List, Bool, refl, sym, ap, length, arith, value_in}
use Rattle.map_eval.proofs.{BusyLemmas.shaped_by, StateLemmas.whole_items}
use Rattle.map_eval.proofs.busy.store.Goals as goal

pub returns-clause-shaped : goal.returns-clause-shaped
returns-clause-shaped c =
    let same = c.store_values.ensures.len ∙ ap length c.deref_mut.ensures.value in
    shaped_by c.args.plan.now c.args.state.now _ c.requires.shaped (ap length c.copy_from_slice.ensures.items ∙ c.requires.inputs) (ap length (whole_items c.args.state.now.values c.store_values.new.values same) ∙ same) refl refl refl

pub returns-clause-stored : goal.returns-clause-stored
returns-clause-stored c = λ t lt. (
    let same = c.store_values.ensures.len ∙ ap length c.deref_mut.ensures.value in
    let e = ap length c.deref_mut.ensures.value in
    let v = c.requires.shaped.values in
    sym (ap (λ (bits : List Bool). value_in bits t) c.deref.ensures.value) ∙ c.store_values.ensures.stored t (omega (arith, lt))
    ∙ sym (ap (λ (values : List Bool). value_in values t) (whole_items c.args.state.now.values c.store_values.new.values same)))
