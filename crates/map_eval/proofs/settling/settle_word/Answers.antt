use Rattle.std.proofs.Common.{arith}
use Rattle.map_eval.proofs.{RunLemmas.before_then, SettleLemmas.gate_at, SettleLemmas.evaluated_before}
use Rattle.map_eval.proofs.settling.settle_word.Goals as goal

pub overflow_mul-word : goal.overflow_mul-word
overflow_mul-word c = let s = c.requires.plan.gates.size in let f = c.requires.plan.few in let w = c.requires.word in omega arith

pub overflow_add-word : goal.overflow_add-word
overflow_add-word c = let s = c.requires.plan.gates.size in let f = c.requires.plan.few in let w = c.requires.word in let b = c.in-Some.ensures.0 in omega arith

pub evaluate-requires-clause-within : goal.evaluate-requires-clause-within
evaluate-requires-clause-within c = (gate_at c.args.plan.now c.args.word c.in-Some.bit _ c.index-in-bits.result.now c.requires.plan c.requires.word c.in-Some.ensures.0 c.index-in-bits.ensures c.in-Some.ensures.1).within

pub bits-preserved : goal.bits-preserved
bits-preserved c =
    let gate = gate_at c.args.plan.now c.args.word c.in-Some.bit _ c.index-in-bits.result.now c.requires.plan c.requires.word c.in-Some.ensures.0 c.index-in-bits.ensures c.in-Some.ensures.1 in
    (c.evaluate.ensures.kept, before_then c.args.plan.now.network c.args.state.now c.bits.state c.evaluate.new.state c.bits.invariant.1 (evaluated_before c.args.plan.now.network _ c.bits.state c.evaluate.new.state gate c.evaluate.ensures.evaluated))
