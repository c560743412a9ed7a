use Rattle.map_network.proofs.Vocabulary.{◌≡◌, List, Bool, true, length, ap, subst, arith, is_dropped, IsClosed, Puts, none_gone}
use Rattle.map_network.proofs.PutLemmas.{same_tables}
use Rattle.map_network.proofs.ReducedLemmas.{puts_from, puts_network, puts_within, puts_found}
use Rattle.map_network.proofs.merge.search_from.Goals as goal

pub run-requires : goal.run-requires
run-requires c =
    let many = same_tables c.in_ok-join.ensures.puts in
    let l = c.requires.network.few in
    omega (arith, many, ap length c.in_ok-work.ensures.tables, l)

pub are_right-requires-clause-network : goal.are_right-requires-clause-network
are_right-requires-clause-network c =
    let n = c.args.network.now in
    let ps : Puts n.tables (none_gone n) c.run.new.work.tables.items c.run.new.work.merged.items = puts_from n c.in_ok-work.work.tables.items c.in_ok-work.work.merged.items c.in_ok-work.ensures.tables c.in_ok-work.ensures.merged c.join.new.work.tables.items c.run.new.work.tables.items c.join.new.work.merged.items c.run.new.work.merged.items c.in_ok-join.ensures.puts (c.in_ok-run.ensures {u = tt}) in
    puts_network n c.requires.network c.run.new.work.tables.items c.run.new.work.merged.items ps c.in_ok-found.found.network c.in_ok-found.ensures.network

pub are_right-requires-clause-within : goal.are_right-requires-clause-within
are_right-requires-clause-within c =
    let n = c.args.network.now in
    let ps : Puts n.tables (none_gone n) c.run.new.work.tables.items c.run.new.work.merged.items = puts_from n c.in_ok-work.work.tables.items c.in_ok-work.work.merged.items c.in_ok-work.ensures.tables c.in_ok-work.ensures.merged c.join.new.work.tables.items c.run.new.work.tables.items c.join.new.work.merged.items c.run.new.work.merged.items c.in_ok-join.ensures.puts (c.in_ok-run.ensures {u = tt}) in
    puts_within n c.requires.network c.run.new.work.tables.items c.run.new.work.merged.items ps c.in_ok-found.found.network c.args.table c.in_ok-found.ensures.network c.requires.within

pub returns-then-are_right : goal.returns-then-are_right
returns-then-are_right c =
    let n = c.args.network.now in
    let found = c.in_ok-found.found in
    let ps : Puts n.tables (none_gone n) c.run.new.work.tables.items c.run.new.work.merged.items = puts_from n c.in_ok-work.work.tables.items c.in_ok-work.work.merged.items c.in_ok-work.ensures.tables c.in_ok-work.ensures.merged c.join.new.work.tables.items c.run.new.work.tables.items c.join.new.work.merged.items c.run.new.work.merged.items c.in_ok-join.ensures.puts (c.in_ok-run.ensures {u = tt}) in
    let right : IsClosed found.gone.items found.network.tables found.network.outputs × (is_dropped found.gone.items c.args.table ≡ true) =
    subst (λ (marks : List Bool). IsClosed marks found.network.tables found.network.outputs × (is_dropped marks c.args.table ≡ true)) c.deref.ensures.value (c.are_right.ensures c.if-are_right.true) in
    puts_found n c.requires.network c.run.new.work.tables.items c.run.new.work.merged.items ps found c.args.table c.in_ok-found.ensures.network c.in_ok-found.ensures.gone right.0 right.1
