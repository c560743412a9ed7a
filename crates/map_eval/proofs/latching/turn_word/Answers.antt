use Rattle.map_eval.proofs.LatchLemmas.{turning_more}
use Rattle.map_eval.proofs.latching.turn_word.Goals as goal

pub bits-preserved : goal.bits-preserved
bits-preserved c =
    let at = c.in-Some.ensures in
    turning_more c.args.plan.now c.args.state.now c.bits.state c.turn_table.new.state c.args.word c.args.due c.bits.left c.without-left.result c.in-Some.bit at.0
    (c.requires.within c.in-Some.bit at.0 (c.bits.invariant.within c.in-Some.bit at.0 at.1)) at.1 c.bits.invariant c.without-left.ensures.gone c.without-left.ensures.others c.turn_table.ensures.kept c.turn_table.ensures.turned
