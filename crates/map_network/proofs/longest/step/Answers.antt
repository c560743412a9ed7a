use Rattle.map_network.proofs.Vocabulary.{None, subst, arith, table_at, IsNewAmong}
use Rattle.map_network.proofs.SearchLemmas.{all_done, last_within}
use Rattle.map_network.proofs.longest.step.Goals as goal

pub ins_of-ins-requires : goal.ins_of-ins-requires
ins_of-ins-requires c = omega (arith, last_within c.args.network.now c.requires.network c.args.search.now.marks.items c.args.search.now.path.items c.requires.searching c.args.table c.requires.last, c.requires.searching.len)

pub close-requires-clause-visited : goal.close-requires-clause-visited
close-requires-clause-visited c =
    all_done c.args.network.now c.requires.network c.args.search.now.marks.items c.args.search.now.path.items c.requires.searching c.args.table c.requires.last (subst (λ m. IsNewAmong m (table_at c.args.network.now c.args.table).ins None) c.deref.ensures.value (subst (λ i. IsNewAmong c.deref.result.now i None) c.ins_of-ins.ensures (c.in-None.ensures {u = tt})))
