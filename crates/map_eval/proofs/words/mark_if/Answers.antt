use Rattle.std.proofs.Common.{arith}
use Rattle.map_eval.proofs.WordLemmas.{set_mark, set_others}
use Rattle.map_eval.proofs.words.mark_if.Goals as goal

pub returns-clause-this : goal.returns-clause-this
returns-clause-this c = set_mark c.args.marks.now c.args.table c.args.bit c.requires.within c.requires.bit

pub returns-clause-others : goal.returns-clause-others
returns-clause-others c = set_others c.args.marks.now c.args.table c.args.bit c.requires.within c.requires.bit
