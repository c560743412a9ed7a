use Rattle.map_eval.proofs.Vocabulary.{◌∙◌, arith, get_or_default}
use Rattle.map_eval.proofs.StateLemmas.{evaluated_by}
use Rattle.map_eval.proofs.state.evaluate.Goals as goal

pub returns-then-cell-eq1-clause-evaluated : goal.returns-then-cell-eq1-clause-evaluated
returns-then-cell-eq1-clause-evaluated c =
    let w = c.requires.within in
    let m = c.requires.kept.sized.masks.len in
    let a = c.requires.kept.sized.pins.len in
    let state = c.args.state.now in
    evaluated_by c.args.plan.now.network c.args.table c.cell.result c.index.result.now c.index-2.result.now state c.turn_table.new.state c.cell.ensures
    (c.index.ensures ∙ get_or_default state.masks.items c.args.table c.index.result.now 0 (omega arith))
    (c.index-2.ensures ∙ get_or_default state.addresses.items c.args.table c.index-2.result.now 0 (omega arith))
    c.if-cell-eq1.true c.turn_table.ensures.turned
