use Rattle.map_eval.proofs.WordLemmas.{turned_mark, turned_others}
use Rattle.map_eval.proofs.words.turn_mark.Goals as goal

pub returns-clause-this : goal.returns-clause-this
returns-clause-this c = turned_mark c.args.marks.now c.args.table c.args.bit c.requires.within c.requires.bit

pub returns-clause-others : goal.returns-clause-others
returns-clause-others c = turned_others c.args.marks.now c.args.table c.args.bit c.requires.within c.requires.bit
