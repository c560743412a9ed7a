use Rattle.map_eval.proofs.Vocabulary.{◌∙◌, arith, length-set}
use Rattle.map_eval.proofs.WordLemmas.{clear_next, clear_done}
use Rattle.map_eval.proofs.words.clear.Goals as goal

pub words-preserved : goal.words-preserved
words-preserved c = (
  length-set c.words.marks c.words.k 0 ∙ c.words.invariant.0,
  clear_next c.words.marks c.words.k (let l = c.words-test.true in let e = c.words.invariant.0 in omega arith) c.words.invariant.1,
)

pub returns-clause-none : goal.returns-clause-none
returns-clause-none c = clear_done c.words.marks c.words.k (let f = c.words-test.false in let e = c.words.invariant.0 in omega arith) c.words.invariant.1
