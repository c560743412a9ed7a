use Rattle.design_flatten.proofs.Vocabulary.{◌≡◌, take, with_names}
use Rattle.design_flatten.proofs.catalog.add_clocks.Given as goal

abbrev pub invariant-clocks : goal.invariant-clocks
invariant-clocks l = l.set ≡ with_names l.fn.set (take l.clock-index l.clocks)
