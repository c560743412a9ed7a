use Rattle.map_eval.proofs.Vocabulary.{◌-◌, ◌∙◌, arith, bit_and, length-set, get_or_default}
use Rattle.map_eval.proofs.LatchLemmas.{due_more, due_of}
use Rattle.map_eval.proofs.latching.find_due.Goals as goal

pub words-preserved : goal.words-preserved
words-preserved c =
    let l = c.words-test.true in
    let e = c.words.invariant.0 in
    let m = c.requires.kept.sized.marks in
    let d = c.requires.len in (
      length-set c.words.due c.words.word (bit_and c.index.result.now (18446744073709551615 - c.index-in-words.result.now)) ∙ c.words.invariant.0,
      due_more c.args.plan.now c.args.state.now c.words.word c.words.due (bit_and c.index.result.now (18446744073709551615 - c.index-in-words.result.now)) (omega arith) c.words.invariant.1
          (due_of c.args.plan.now c.args.state.now c.words.word c.requires.plan c.requires.kept c.index-in-words.result.now
          (c.index-in-words.ensures ∙ get_or_default c.args.plan.now.gates.items c.words.word c.index-in-words.result.now 0 (omega arith)) (omega arith) c.index.result.now
          (c.index.ensures ∙ get_or_default c.args.state.now.marks.items c.words.word c.index.result.now 0 (omega arith))),
    )
