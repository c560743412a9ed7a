use Rattle.map_eval.proofs.Vocabulary.{◌∙◌, List, Bool, sym, ap, length, subst, NetTable, HaveMasksTo, HaveAddressesTo}
use Rattle.map_eval.proofs.{StartLemmas.set_pins, StartLemmas.set_masks, StateLemmas.whole_items}
use Rattle.map_eval.proofs.refreshing.refresh_tables.Goals as goal

pub returns-clause-sized : goal.returns-clause-sized
returns-clause-sized c = (
    let n = c.args.plan.now.network in
    let state = c.args.state.now in
    let masks = c.refresh_masks.new.masks in
    let addresses = c.refresh_addresses.new.addresses in
    let masked = c.refresh_masks.ensures.len ∙ ap length c.as_slice.ensures ∙ sym c.requires.shaped.masks in
    let addressed = c.refresh_addresses.ensures.len ∙ sym c.requires.shaped.addresses in
    record {
      inputs = c.requires.shaped.inputs;
      values = c.requires.shaped.values;
      marks = c.requires.shaped.marks;
      pins = set_pins n state.inputs.items state.values.items _
          (subst (HaveAddressesTo n state.inputs.items state.values.items (length n.tables)) (sym (whole_items state.addresses addresses addressed)) (subst (λ (vs : List Bool). HaveAddressesTo n state.inputs.items vs (length n.tables) addresses) c.deref-3.ensures.value (subst (λ (is : List Bool). HaveAddressesTo n is c.deref-3.result.now (length n.tables) addresses) c.deref-2.ensures.value c.refresh_addresses.ensures)));
      masks = set_masks n state.values.items _
          (subst (HaveMasksTo n.tables state.values.items (length n.tables)) (sym (whole_items state.masks masks masked)) (subst (λ (vs : List Bool). HaveMasksTo n.tables vs (length n.tables) masks) c.deref.ensures.value (subst (λ (ts : List NetTable). HaveMasksTo ts c.deref.result.now (length ts) masks) c.as_slice.ensures c.refresh_masks.ensures)));
    })
