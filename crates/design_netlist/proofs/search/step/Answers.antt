use Rattle.design_netlist.proofs.Vocabulary.{◌≤◌, ◌-◌, length, arith, waits_at}
use Rattle.design_netlist.proofs.SearchLemmas.{taken, taken_handled, taken_source}
use Rattle.design_netlist.proofs.search.step.Goals as goal

pub visit-requires-clause-searching : goal.visit-requires-clause-searching
visit-requires-clause-searching c =
    let last : waits_at c.args.search.now.groups.items (length c.args.search.now.groups.items - 1) ≤ length c.take_last.new.waiting.items = omega (arith, c.in-Some.ensures.len, c.requires.last.waits, c.if-len-group.false) in
    record { listed = c.requires.searching.listed; keeps = taken c.args.covers.now c.args.search.now.states.items c.args.search.now.path.items c.args.search.now.groups.items c.args.search.now.waiting.items (length c.args.search.now.order.items) c.requires.searching.keeps c.take_last.new.waiting.items c.in-Some.cover c.in-Some.ensures.len c.in-Some.ensures.old c.in-Some.ensures.at c.requires.last.some last; handled = taken_handled c.args.covers.now c.args.search.now.states.items c.args.search.now.path.items c.args.search.now.groups.items c.args.search.now.waiting.items (length c.args.search.now.order.items) c.requires.searching.keeps c.take_last.new.waiting.items c.in-Some.cover c.in-Some.ensures.len c.in-Some.ensures.old c.in-Some.ensures.at c.requires.last.some last c.requires.searching.handled }

pub visit-requires-clause-within : goal.visit-requires-clause-within
visit-requires-clause-within c =
    let last : waits_at c.args.search.now.groups.items (length c.args.search.now.groups.items - 1) ≤ length c.take_last.new.waiting.items = omega (arith, c.in-Some.ensures.len, c.requires.last.waits, c.if-len-group.false) in
    (taken_source c.args.covers.now c.args.search.now.states.items c.args.search.now.path.items c.args.search.now.groups.items c.args.search.now.waiting.items (length c.args.search.now.order.items) c.requires.searching.keeps c.take_last.new.waiting.items c.in-Some.cover c.in-Some.ensures.len c.in-Some.ensures.old c.in-Some.ensures.at c.requires.last.some last).3.driver

pub visit-requires-clause-read : goal.visit-requires-clause-read
visit-requires-clause-read c =
    let last : waits_at c.args.search.now.groups.items (length c.args.search.now.groups.items - 1) ≤ length c.take_last.new.waiting.items = omega (arith, c.in-Some.ensures.len, c.requires.last.waits, c.if-len-group.false) in
    taken_source c.args.covers.now c.args.search.now.states.items c.args.search.now.path.items c.args.search.now.groups.items c.args.search.now.waiting.items (length c.args.search.now.order.items) c.requires.searching.keeps c.take_last.new.waiting.items c.in-Some.cover c.in-Some.ensures.len c.in-Some.ensures.old c.in-Some.ensures.at c.requires.last.some last
