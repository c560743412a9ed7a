use Rattle.cmd_map.proofs.ChainLemmas.{fits-then-compiles}
use Rattle.cmd_map.proofs.laws.mapped_texts_are_compiled.Goals as goal

pub returns : goal.returns
returns c = λ machine defects design name old new handed f h. fits-then-compiles machine defects design name old new handed f h
