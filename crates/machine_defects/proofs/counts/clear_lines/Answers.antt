use Rattle.machine_defects.proofs.Vocabulary.{◌≡◌, ◌∙◌, ap, arith, lines_of, line_at, is_clear_line, how_many}
use Rattle.machine_defects.proofs.{Counting.count_at_most, Counting.how_many_same, SitesInRows.line_step, SitesInRows.line_below}
use Rattle.machine_defects.proofs.counts.clear_lines.Goals as goal

pub overflow_add-line : goal.overflow_add-line
overflow_add-line c =
    let h = line_below c.args.shape.now (c.the_numbering_is_sound.ensures.meanings c.args.shape.now) (c.crosspoints_stand_in_rows.ensures c.args.shape.now) c.args.n.0 c.requires.node _ c.lines.i c.line-first.ensures.wire (omega (arith, c.lines-test.true, c.lines-lines.ensures.lines)) in
    omega (arith, h.1)

pub has-requires : goal.has-requires
has-requires c =
    let h = line_below c.args.shape.now (c.the_numbering_is_sound.ensures.meanings c.args.shape.now) (c.crosspoints_stand_in_rows.ensures c.args.shape.now) c.args.n.0 c.requires.node _ c.lines.i c.line-first.ensures.wire (omega (arith, c.lines-test.true, c.lines-lines.ensures.lines)) in
    omega (arith, h.0, c.requires.wires)

pub bounds-shut-line : goal.bounds-shut-line
bounds-shut-line c =
    let h = line_below c.args.shape.now (c.the_numbering_is_sound.ensures.meanings c.args.shape.now) (c.crosspoints_stand_in_rows.ensures c.args.shape.now) c.args.n.0 c.requires.node _ c.lines.i c.line-first.ensures.wire (omega (arith, c.lines-test.true, c.lines-lines.ensures.lines)) in
    omega (arith, h.0, c.requires.shut)

pub overflow_add-count : goal.overflow_add-count
overflow_add-count c = let h = count_at_most _ _ _ c.lines.invariant in omega (arith, h)

pub returns : goal.returns
returns c =
    let end : c.lines.i ≡ lines_of c.args.shape.now c.args.n.0 = omega (arith, c.lines-test.false, c.lines-lines.ensures.lines) in
    c.lines.invariant ∙ how_many_same _ (λ i. is_clear_line c.args.wires.now c.args.shut.now (line_at c.args.shape.now c.args.n.0 i)) c.lines.i
    (λ i li. ap (is_clear_line c.args.wires.now c.args.shut.now) (line_step c.args.shape.now (c.crosspoints_stand_in_rows.ensures c.args.shape.now) c.args.n.0 _ i c.line-first.ensures.wire))
    ∙ ap (how_many (λ i. is_clear_line c.args.wires.now c.args.shut.now (line_at c.args.shape.now c.args.n.0 i))) end
