use Rattle.map_network.specs.Vocabulary.{AreUsed}
use Rattle.map_network.proofs.useless.use_all.Given as goal

abbrev pub invariant-sources : goal.invariant-sources
invariant-sources l = AreUsed l.sources l.k l.fn.marks.items l.fn.queue.items l.marks.items l.queue.items
