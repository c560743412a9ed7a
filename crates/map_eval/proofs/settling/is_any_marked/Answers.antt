use Rattle.std.proofs.Common.{◌∙◌, ap, arith}
use Rattle.map_eval.proofs.{RunLemmas.clear_all, SettleLemmas.clear_more, SettleLemmas.zero_of}
use Rattle.map_eval.proofs.settling.is_any_marked.Goals as goal

pub words-preserved : goal.words-preserved
words-preserved c = clear_more c.args.plan.now.gates.items c.args.marks.now c.words.word c.words.found c.index.result.now (let l = c.words-test.true in let e = c.requires in omega arith) c.index.ensures c.words.invariant

pub returns : goal.returns
returns c = λ e. clear_all c.args.plan.now.gates.items c.args.marks.now c.words.word (omega arith) (c.words.invariant (zero_of c.words.found e))
