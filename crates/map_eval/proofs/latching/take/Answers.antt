use Rattle.map_eval.proofs.Vocabulary.{subst, arith, AreDue}
use Rattle.map_eval.proofs.LatchLemmas.{taken_more, taken_all}
use Rattle.map_eval.proofs.latching.take.Goals as goal

pub words-preserved : goal.words-preserved
words-preserved c = taken_more c.args.plan.now c.args.state.now c.words.state c.turn_word.new.state c.words.word c.find_due.new.due c.words.invariant c.turn_word.ensures.kept c.turn_word.ensures.turned

pub returns-clause-taken : goal.returns-clause-taken
returns-clause-taken c =
    let l = c.requires.len in
    let e = c.find_due.ensures.len in
    let f = c.words-test.false in
    taken_all c.args.plan.now c.args.state.now c.words.state c.words.word c.find_due.new.due c.requires.plan (omega arith) (subst (λ n. AreDue c.args.plan.now c.args.state.now n c.find_due.new.due) l c.find_due.ensures.due) c.words.invariant
