use Rattle.place_plan.proofs.Vocabulary.{◌≡◌, ◌<◌, ◌≤◌, sym, ap, ◌∙◌, subst, Shape, AreWires}
use Rattle.machine_shape.specs.Shape.{line_at, lines_of, wires_of}
use Rattle.place_plan.proofs.{Sieves.tested_wire, Crossings.lines_end, Crossings.wires_step}
use Rattle.place_plan.proofs.taps.free_lines.Goals as goal

pub loop-k-preserved : goal.loop-k-preserved
loop-k-preserved c =
    let m = c.args.defects.now.shape in
    let wire : c.line-line.result.0 ≡ line_at m c.args.node c.loop-k.k = c.line-line.ensures.wire ∙ ap (λ z. line_at z c.args.node c.loop-k.k) c.shape-shape.ensures.shape in
    let within : c.line-line.result.0 < wires_of m = subst (λ (z : Shape). c.line-line.result.0 < wires_of z) c.shape-shape.ensures.shape c.line-line.ensures.within in
    record {
      lines = tested_wire (line_at m c.args.node) c.args.defects.now.list c.loop-k.k c.line-line.result.0 c.free_wire.result c.loop-k.lines c.push_if.new.numbers (λ j l. (c.ports_and_lines_ascend.ensures m).lines_ascend c.args.node j c.loop-k.k l) wire c.free_wire.ensures c.in_ok-push_if.ensures c.loop-k.invariant.lines;
      within = subst (AreWires m) (sym c.in_ok-push_if.ensures) (wires_step m c.loop-k.lines c.line-line.result.0 c.free_wire.result within c.loop-k.invariant.within);
    }

pub returns-clause-lines : goal.returns-clause-lines
returns-clause-lines c =
    let m = c.args.defects.now.shape in
    let all : lines_of m c.args.node ≤ c.loop-k.k = subst (λ z. z ≤ c.loop-k.k) (c.lines-k-end.ensures.lines ∙ ap (λ z. lines_of z c.args.node) c.shape-shape.ensures.shape) c.loop-k-test.false in
    let within : c.loop-k.k ≤ lines_of m c.args.node = subst (λ z. c.loop-k.k ≤ z) (c.lines-k-end.ensures.lines ∙ ap (λ z. lines_of z c.args.node) c.shape-shape.ensures.shape) c.loop-k.auto.k-end in
    lines_end m (c.ports_and_lines_ascend.ensures m) c.args.defects.now.list c.args.node c.loop-k.lines c.loop-k.k all within c.requires c.loop-k.invariant.lines
