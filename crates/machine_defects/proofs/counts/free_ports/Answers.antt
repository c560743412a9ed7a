use Rattle.machine_defects.proofs.Vocabulary.{◌≡◌, ◌∙◌, ap, not, arith, has_number, own_ports_of, port_at, how_many}
use Rattle.machine_defects.proofs.{Counting.count_at_most, Counting.how_many_same, SitesInRows.port_step, SitesInRows.port_below}
use Rattle.machine_defects.proofs.counts.free_ports.Goals as goal

pub overflow_add-port : goal.overflow_add-port
overflow_add-port c =
    let h = port_below c.args.shape.now (c.the_numbering_is_sound.ensures.meanings c.args.shape.now) (c.crosspoints_stand_in_rows.ensures c.args.shape.now) c.args.n.0 c.requires.node _ c.ports.i c.port-first.ensures.wire (omega (arith, c.ports-test.true, c.ports-ports.ensures)) in
    omega (arith, h.1)

pub has-requires : goal.has-requires
has-requires c =
    let h = port_below c.args.shape.now (c.the_numbering_is_sound.ensures.meanings c.args.shape.now) (c.crosspoints_stand_in_rows.ensures c.args.shape.now) c.args.n.0 c.requires.node _ c.ports.i c.port-first.ensures.wire (omega (arith, c.ports-test.true, c.ports-ports.ensures)) in
    omega (arith, h.0, c.requires.wires)

pub overflow_add-count : goal.overflow_add-count
overflow_add-count c = let h = count_at_most _ _ _ c.ports.invariant in omega (arith, h)

pub returns : goal.returns
returns c =
    let end : c.ports.i ≡ own_ports_of c.args.shape.now c.args.n.0 = omega (arith, c.ports-test.false, c.ports-ports.ensures) in
    c.ports.invariant ∙ how_many_same _ (λ i. not (has_number c.args.wires.now (port_at c.args.shape.now c.args.n.0 i))) c.ports.i
    (λ i li. ap (λ w. not (has_number c.args.wires.now w)) (port_step c.args.shape.now (c.crosspoints_stand_in_rows.ensures c.args.shape.now) c.args.n.0 _ i c.port-first.ensures.wire))
    ∙ ap (how_many (λ i. not (has_number c.args.wires.now (port_at c.args.shape.now c.args.n.0 i)))) end
