use Rattle.std.proofs.Common.{length}
use Rattle.design_netlist.proofs.{SearchLemmas.any_spare, StepLemmas.no_one_leads}
use Rattle.design_netlist.proofs.search.number_from.Goals as goal

pub open-requires-clause-searching : goal.open-requires-clause-searching
open-requires-clause-searching c = record { listed = c.requires.searching.listed; keeps = c.requires.searching.keeps; handled = any_spare c.args.covers.now c.args.search.now.states.items c.args.search.now.path.items c.args.search.now.groups.items c.args.search.now.waiting.items (length c.args.search.now.order.items) c.requires.searching.keeps c.args.cover c.requires.searching.handled }

pub open-requires-clause-led : goal.open-requires-clause-led
open-requires-clause-led c = no_one_leads c.args.covers.now c.args.search.now.states.items c.args.search.now.path.items c.args.search.now.groups.items c.args.search.now.waiting.items (length c.args.search.now.order.items) c.requires.searching.keeps c.requires.ended c.args.cover

pub returns-in_ok-run-clause-itself : goal.returns-in_ok-run-clause-itself
returns-in_ok-run-clause-itself c = λ e. c.in_ok-open.ensures.itself (c.in_ok-run.ensures.seen c.args.cover e)
