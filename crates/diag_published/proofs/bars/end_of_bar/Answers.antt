use Rattle.std.proofs.Common.{sym, arith}
use Rattle.diag_published.proofs.Fielding.{end_within}
use Rattle.diag_published.proofs.bars.end_of_bar.Goals as goal

pub overflow_mul-count : goal.overflow_mul-count
overflow_mul-count c =
    let fits = end_within c.args.shape.now c.args.node.0 c.taps-taps.result c.lines-lines.result (c.crosspoints_stand_in_rows.ensures c.args.shape.now) c.requires.node (sym c.taps-taps.ensures) (sym c.lines-lines.ensures.lines) (rw c.taps-taps.ensures c.requires.taps) c.lines-lines.ensures.some in
    let all = c.crosses-few.ensures.crosses in
    let few = c.crosses-few.ensures.few in
    omega (arith, fits, all, few)

pub overflow_add-result : goal.overflow_add-result
overflow_add-result c =
    let fits = end_within c.args.shape.now c.args.node.0 c.taps-taps.result c.lines-lines.result (c.crosspoints_stand_in_rows.ensures c.args.shape.now) c.requires.node (sym c.taps-taps.ensures) (sym c.lines-lines.ensures.lines) (rw c.taps-taps.ensures c.requires.taps) c.lines-lines.ensures.some in
    let first = c.first_cross-first.ensures in
    let all = c.crosses-few.ensures.crosses in
    let few = c.crosses-few.ensures.few in
    omega (arith, fits, first, all, few)

pub returns-clause-within : goal.returns-clause-within
returns-clause-within c =
    let fits = end_within c.args.shape.now c.args.node.0 c.taps-taps.result c.lines-lines.result (c.crosspoints_stand_in_rows.ensures c.args.shape.now) c.requires.node (sym c.taps-taps.ensures) (sym c.lines-lines.ensures.lines) (rw c.taps-taps.ensures c.requires.taps) c.lines-lines.ensures.some in
    let first = c.first_cross-first.ensures in
    omega (arith, fits, first)
