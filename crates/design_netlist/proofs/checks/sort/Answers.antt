use Rattle.design_netlist.proofs.Vocabulary.{◌≤◌, length, List, arith, ap, subst, Cover, AreSorted}
use Rattle.design_netlist.specs.declared.cycles.Sorted.TheVariants.{Order}
use Rattle.design_netlist.proofs.CheckLemmas.{few_covers, outs_apart}
use Rattle.design_netlist.proofs.checks.sort.Goals as goal

pub drivers_of-requires-clause-few : goal.drivers_of-requires-clause-few
drivers_of-requires-clause-few c =
    let few : length c.args.draft.now.covers ≤ length c.args.draft.now.names = few_covers c.args.draft.now.covers (length c.args.draft.now.names) (λ i li. (c.requires.made.covers i li).out) (outs_apart c.args.draft.now c.requires.once) in
    omega (arith, few, c.requires.made.names, ap length c.as_slice-covers.ensures)

pub sort_covers-requires-clause-few : goal.sort_covers-requires-clause-few
sort_covers-requires-clause-few c =
    let few : length c.args.draft.now.covers ≤ length c.args.draft.now.names = few_covers c.args.draft.now.covers (length c.args.draft.now.names) (λ i li. (c.requires.made.covers i li).out) (outs_apart c.args.draft.now c.requires.once) in
    omega (arith, few, c.requires.made.names, ap length c.as_slice-covers.ensures)

pub drivers_of-requires-clause-once : goal.drivers_of-requires-clause-once
drivers_of-requires-clause-once c = rw c.as_slice-covers.ensures (outs_apart c.args.draft.now c.requires.once)

pub returns-in-Order : goal.returns-in-Order
returns-in-Order c =
    let P : List Cover → Type 0 = λ covers. AreSorted covers (Order c.in-Order.order) in
    let h : P c.args.draft.now.covers = subst P c.as_slice-covers.ensures (subst (λ s. AreSorted c.as_slice-covers.result.now s) c.in-Order.is c.in_ok-order.ensures) in
    (c.requires, h.0, h.1)
