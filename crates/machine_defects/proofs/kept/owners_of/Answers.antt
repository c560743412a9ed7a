use Rattle.std.proofs.Common.{rules, ◌≡◌, ◌∙◌, None, length, replicate, sym, ap, subst}
use Rattle.machine_defects.proofs.Vocabulary.{with_items, length-replicate, AreOwners, items_after}
use Rattle.machine_defects.proofs.kept.owners_of.Goals as goal

pub returns-clause-wide : goal.returns-clause-wide
returns-clause-wide c =
    let none : c.in_ok-owners.owners.items ≡ replicate c.wires-wires.result None = search rules in
    let now : (with_items c.in_ok-owners.owners c.own_tables.new.owners).items ≡ c.own_tables.new.owners = items_after c.in_ok-owners.owners c.own_tables.new.owners (c.own_tables.ensures.wide ∙ ap length c.deref_mut.ensures.value) in
    ap length now ∙ c.own_tables.ensures.wide ∙ ap length (c.deref_mut.ensures.value ∙ none) ∙ length-replicate c.wires-wires.result None ∙ c.wires-wires.ensures.wires

pub returns-clause-owned : goal.returns-clause-owned
returns-clause-owned c =
    let now : (with_items c.in_ok-owners.owners c.own_tables.new.owners).items ≡ c.own_tables.new.owners = items_after c.in_ok-owners.owners c.own_tables.new.owners (c.own_tables.ensures.wide ∙ ap length c.deref_mut.ensures.value) in
    subst (AreOwners c.args.shape.now) (sym now) c.own_tables.ensures.owned
