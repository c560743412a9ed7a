use Rattle.design_netlist.proofs.Vocabulary.{sym, subst, AreGroups}
use Rattle.design_netlist.proofs.CycleLemmas.{are_groups}
use Rattle.design_netlist.proofs.groups.groups_of.Goals as goal

pub returns : goal.returns
returns c = subst (AreGroups c.args.covers.now) (sym c.in_ok-groups.ensures) (are_groups c.args.covers.now c.in_ok-search.search.states.items c.in_ok-search.ensures.numbered)
