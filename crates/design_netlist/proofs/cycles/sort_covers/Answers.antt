use Rattle.design_netlist.proofs.CycleLemmas.{is_order}
use Rattle.design_netlist.proofs.cycles.sort_covers.Goals as goal

pub returns-in-None : goal.returns-in-None
returns-in-None c = (c.in-None.ensures, is_order c.args.covers.now c.in_ok-search.search.states.items c.in_ok-search.ensures.numbered c.args.drivers.now c.requires.drivers c.in-None.ensures c.in_ok-search.search.order.items c.in_ok-search.ensures.listed)
