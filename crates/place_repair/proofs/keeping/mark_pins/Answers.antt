use Rattle.std.proofs.Common.{◌≡◌, ◌<◌, sym, ap, ◌∙◌, subst, arith}
use Rattle.place_repair.proofs.Vocabulary.{Shape, table_wire, wires_of, tables_of, IsBrokenBy, IsMarked, HasWire}
use Rattle.place_repair.proofs.{Unbroken.broken_more, Marking.marked_none, Marking.none_below}
use Rattle.place_repair.proofs.keeping.mark_pins.Goals as goal

pub pin_of-requires-clause-table : goal.pin_of-requires-clause-table
pin_of-requires-clause-table c = subst (λ (m : Shape). c.args.table.0 < tables_of m) (sym c.shape-shape.ensures.shape) c.requires.within

pub mark_net-requires-clause-sized : goal.mark_net-requires-clause-sized
mark_net-requires-clause-sized c = c.loop-j.invariant.sized ∙ c.requires.sized

pub mark_net-requires-clause-within : goal.mark_net-requires-clause-within
mark_net-requires-clause-within c = subst (λ (m : Shape). c.pin_of.result.0 < wires_of m) c.shape-shape.ensures.shape c.pin_of.ensures.within

pub loop-j-init : goal.loop-j-init
loop-j-init c = marked_none (IsBrokenBy c.args.config.now.config c.args.nets.now.lowest c.args.table.0 0) c.args.marks.now (λ k p. none_below p.0 p.1)

pub loop-j-preserved : goal.loop-j-preserved
loop-j-preserved c =
    let g = c.args.config.now.config in
    let wire : c.pin_of.result.0 ≡ table_wire g.shape c.args.table.0 c.loop-j.j = c.pin_of.ensures.wire ∙ ap (λ (m : Shape). table_wire m c.args.table.0 c.loop-j.j) c.shape-shape.ensures.shape in
    broken_more g c.args.nets.now.lowest c.args.table.0 c.loop-j.j c.args.marks.now c.loop-j.marks c.mark_net.new.marks c.loop-j.invariant
    (subst (λ w. IsMarked (λ k. HasWire g c.args.nets.now.lowest k w) c.loop-j.marks c.mark_net.new.marks) wire c.mark_net.ensures)

pub returns : goal.returns
returns c = subst (λ n. IsMarked (IsBrokenBy c.args.config.now.config c.args.nets.now.lowest c.args.table.0 n) c.args.marks.now c.loop-j.marks) (let e : c.loop-j.j ≡ 7 = omega arith in e) c.loop-j.invariant
