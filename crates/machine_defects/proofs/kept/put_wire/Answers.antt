use Rattle.machine_defects.proofs.Vocabulary.{◌≡◌, ◌∙◌, ℕ, Bool, true, List, sym, ap, subst, with_items, items_after}
use Rattle.machine_defects.specs.Vocabulary.{AreRight, marks_in, listed_by, free_pins_in, IsWithWire}
use Rattle.machine_defects.proofs.PuttingWires.{wire_as_it_is, owner_read, owner_low, owner_free, recounted_as, wire_right, wire_listed}
use Rattle.machine_defects.proofs.kept.put_wire.Goals as goal

pub returns-then-has-clause-listed : goal.returns-then-has-clause-listed
returns-then-has-clause-listed c = wire_as_it_is (marks_in c.args.kept.now) c.requires.kept c.args.w.0 c.requires.within (sym c.has.ensures ∙ c.if-has.true)

pub lose_table-requires-clause-within : goal.lose_table-requires-clause-within
lose_table-requires-clause-within c =
    let k = marks_in c.args.kept.now in
    owner_low k c.requires.kept c.args.w.0 c.requires.within c.index.result.now (owner_read k c.requires.kept c.args.w.0 c.requires.within c.index.result.now c.index.ensures)

pub lose_table-requires-clause-counted : goal.lose_table-requires-clause-counted
lose_table-requires-clause-counted c =
    let k = marks_in c.args.kept.now in
    owner_free k c.requires.kept c.args.w.0 c.requires.within c.index.result.now (owner_read k c.requires.kept c.args.w.0 c.requires.within c.index.result.now c.index.ensures)

pub returns-clause-kept : goal.returns-clause-kept
returns-clause-kept c =
    let k = marks_in c.args.kept.now in
    let shut_now : (with_items c.args.kept.now.shut c.bar_all.new.shut).items ≡ c.bar_all.new.shut = items_after c.args.kept.now.shut c.bar_all.new.shut (c.bar_all.ensures.shut_width ∙ sym c.requires.kept.wide.shut) in
    let again = recounted_as c.insert.ensures (c.deref.ensures.value ∙ shut_now) c.node_of-node.ensures.node c.deref_mut-2.ensures.value c.deref_mut-3.ensures.value c.recount_both.ensures in
    let lines_now = items_after c.args.kept.now.open_lines c.recount_both.new.open_lines (c.recount_both.ensures.lines_width ∙ sym c.requires.kept.wide.open_lines) in
    let ports_now = items_after c.args.kept.now.free_ports c.recount_both.new.free_ports_by (c.recount_both.ensures.ports_width ∙ sym c.requires.kept.wide.free_ports) in
    subst (λ (p : (List Bool × List ℕ) × (List ℕ × List ℕ)). AreRight (record {
      shape = k.shape;
      wires = p.0.0;
      crosses = c.bar_all.new.crosses;
      tables = c.lose_table.new.tables;
      barred = c.bar_all.new.barred;
      lost = c.lose_table.new.lost;
      owners = k.owners;
      shut = p.0.1;
      open_lines = p.1.0;
      free_ports = p.1.1;
      free_tables = c.lose_table.new.free_tables;
      free_pins = c.free_pins-kept.result;
    }))
    (λ i. ((sym c.insert.ensures i, sym shut_now i), (sym lines_now i, sym ports_now i)))
    (wire_right k c.requires.kept c.args.w.0 c.requires.within c.bar_all.new.crosses c.bar_all.new.barred c.bar_all.new.shut c.bar_all.ensures (c.the_crosspoints_are_sound.ensures.crosses k.shape) (c.the_crosspoints_are_sound.ensures.taps k.shape) (c.the_numbering_is_sound.ensures.tree k.shape) (c.the_numbering_is_sound.ensures.parents k.shape) (c.the_numbering_is_sound.ensures.meanings k.shape)
    c.recount_both.new.open_lines c.recount_both.new.free_ports_by again c.index.result.now (owner_read k c.requires.kept c.args.w.0 c.requires.within c.index.result.now c.index.ensures) c.lose_table.new.tables c.lose_table.new.lost c.lose_table.new.free_tables c.free_pins-kept.result c.lose_table.ensures (c.free_pins-kept.ensures ∙ ap (free_pins_in k.shape) c.insert.ensures))

pub returns-clause-listed : goal.returns-clause-listed
returns-clause-listed c =
    let k = marks_in c.args.kept.now in
    let shut_now : (with_items c.args.kept.now.shut c.bar_all.new.shut).items ≡ c.bar_all.new.shut = items_after c.args.kept.now.shut c.bar_all.new.shut (c.bar_all.ensures.shut_width ∙ sym c.requires.kept.wide.shut) in
    let again = recounted_as c.insert.ensures (c.deref.ensures.value ∙ shut_now) c.node_of-node.ensures.node c.deref_mut-2.ensures.value c.deref_mut-3.ensures.value c.recount_both.ensures in
    subst (λ (ws : List Bool). IsWithWire (listed_by k) c.args.w.0 (listed_by (record k { wires = ws; crosses = c.bar_all.new.crosses; tables = c.lose_table.new.tables }))) (sym c.insert.ensures)
    (wire_listed k c.requires.kept c.args.w.0 c.requires.within c.bar_all.new.crosses c.bar_all.new.barred c.bar_all.new.shut c.bar_all.ensures (c.the_crosspoints_are_sound.ensures.crosses k.shape) (c.the_crosspoints_are_sound.ensures.taps k.shape) (c.the_numbering_is_sound.ensures.tree k.shape) (c.the_numbering_is_sound.ensures.parents k.shape) (c.the_numbering_is_sound.ensures.meanings k.shape)
    c.recount_both.new.open_lines c.recount_both.new.free_ports_by again c.index.result.now (owner_read k c.requires.kept c.args.w.0 c.requires.within c.index.result.now c.index.ensures) c.lose_table.new.tables c.lose_table.new.lost c.lose_table.new.free_tables c.free_pins-kept.result c.lose_table.ensures (c.free_pins-kept.ensures ∙ ap (free_pins_in k.shape) c.insert.ensures))
