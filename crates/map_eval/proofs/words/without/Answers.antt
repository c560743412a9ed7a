use Rattle.std.proofs.Common.{arith}
use Rattle.map_eval.proofs.WordLemmas.{less_without, gone_without, rest_without}
use Rattle.map_eval.proofs.words.without.Goals as goal

pub returns-clause-less : goal.returns-clause-less
returns-clause-less c = less_without c.args.word c.args.bit c.requires

pub returns-clause-gone : goal.returns-clause-gone
returns-clause-gone c = gone_without c.args.word c.args.bit c.requires

pub returns-clause-others : goal.returns-clause-others
returns-clause-others c = rest_without c.args.word c.args.bit c.requires
