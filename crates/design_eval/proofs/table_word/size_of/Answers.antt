use Rattle.design_eval.proofs.TableWordLemmas.{sizes-are}
use Rattle.design_eval.proofs.table_word.size_of.Goals as goal

pub returns : goal.returns
returns c = sizes-are c.args.count 0 c.requires
