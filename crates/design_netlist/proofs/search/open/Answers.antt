use Rattle.design_netlist.proofs.Vocabulary.{get_or, arith, get_or_default, no_cover}
use Rattle.design_netlist.proofs.StepLemmas.{has_opened}
use Rattle.design_netlist.proofs.search.open.Goals as goal

pub returns-clause-searching : goal.returns-clause-searching
returns-clause-searching c =
    let o = has_opened c.args.covers.now c.args.drivers.now c.args.search.now.states.items c.args.search.now.path.items c.args.search.now.groups.items c.args.search.now.waiting.items c.args.search.now.order.items c.args.cover _ _ _ _ c.len.result c.len-2.result (get_or c.args.covers.now c.args.cover c.index-covers-cover.result) _ c.requires.drivers c.requires.searching.keeps c.requires.searching.handled c.requires.searching.listed c.requires.within c.requires.fresh c.requires.led (omega arith) (omega arith) (get_or_default c.args.covers.now c.args.cover c.index-covers-cover.result no_cover c.requires.within) c.as_slice.ensures c.set_state.ensures c.in_ok-push-2.ensures.items c.in_ok-push.ensures.items c.in_ok-push_targets.ensures in
    record { keeps = o.keeps; handled = o.handled; listed = o.listed }

pub returns-clause-less : goal.returns-clause-less
returns-clause-less c =
    (has_opened c.args.covers.now c.args.drivers.now c.args.search.now.states.items c.args.search.now.path.items c.args.search.now.groups.items c.args.search.now.waiting.items c.args.search.now.order.items c.args.cover _ _ _ _ c.len.result c.len-2.result (get_or c.args.covers.now c.args.cover c.index-covers-cover.result) _ c.requires.drivers c.requires.searching.keeps c.requires.searching.handled c.requires.searching.listed c.requires.within c.requires.fresh c.requires.led (omega arith) (omega arith) (get_or_default c.args.covers.now c.args.cover c.index-covers-cover.result no_cover c.requires.within) c.as_slice.ensures c.set_state.ensures c.in_ok-push-2.ensures.items c.in_ok-push.ensures.items c.in_ok-push_targets.ensures).less

pub returns-clause-seen : goal.returns-clause-seen
returns-clause-seen c =
    (has_opened c.args.covers.now c.args.drivers.now c.args.search.now.states.items c.args.search.now.path.items c.args.search.now.groups.items c.args.search.now.waiting.items c.args.search.now.order.items c.args.cover _ _ _ _ c.len.result c.len-2.result (get_or c.args.covers.now c.args.cover c.index-covers-cover.result) _ c.requires.drivers c.requires.searching.keeps c.requires.searching.handled c.requires.searching.listed c.requires.within c.requires.fresh c.requires.led (omega arith) (omega arith) (get_or_default c.args.covers.now c.args.cover c.index-covers-cover.result no_cover c.requires.within) c.as_slice.ensures c.set_state.ensures c.in_ok-push-2.ensures.items c.in_ok-push.ensures.items c.in_ok-push_targets.ensures).seen

pub returns-clause-itself : goal.returns-clause-itself
returns-clause-itself c =
    (has_opened c.args.covers.now c.args.drivers.now c.args.search.now.states.items c.args.search.now.path.items c.args.search.now.groups.items c.args.search.now.waiting.items c.args.search.now.order.items c.args.cover _ _ _ _ c.len.result c.len-2.result (get_or c.args.covers.now c.args.cover c.index-covers-cover.result) _ c.requires.drivers c.requires.searching.keeps c.requires.searching.handled c.requires.searching.listed c.requires.within c.requires.fresh c.requires.led (omega arith) (omega arith) (get_or_default c.args.covers.now c.args.cover c.index-covers-cover.result no_cover c.requires.within) c.as_slice.ensures c.set_state.ensures c.in_ok-push-2.ensures.items c.in_ok-push.ensures.items c.in_ok-push_targets.ensures).itself
