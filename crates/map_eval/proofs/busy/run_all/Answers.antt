use Rattle.map_eval.proofs.Vocabulary.{◌∙◌, List, Bool, ap, outputs_in, value_in}
use Rattle.map_eval.proofs.BusyLemmas.{busy_cycle}
use Rattle.map_eval.proofs.busy.run_all.Goals as goal

pub returns-clause-rows : goal.returns-clause-rows
returns-clause-rows c =
    let n = c.args.plan.now.network in
    let values = c.store.new.state.values.items in
    busy_cycle n c.requires.plan.range c.args.vector.now c.settle_busy.new.busy.bits.items c.args.state.now.values.items values c.take_busy.new.state.values.items c.show.new.row
    c.requires.inputs c.settle_busy.ensures.inputs (λ t l. c.settle_busy.ensures.latched t l ∙ ap (λ (vs : List Bool). value_in vs t) c.deref.ensures.value) c.settle_busy.ensures.settled c.store.ensures.stored
    (c.show.ensures ∙ ap (λ (v : List Bool). outputs_in n v (value_in values)) c.store.ensures.inputs) (c.take_busy.ensures.taken c.args.vector.now c.settle_busy.ensures.inputs)
