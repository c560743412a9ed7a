use Rattle.map_network.proofs.ReducedLemmas.{put_from, one_found}
use Rattle.map_network.proofs.merge.joined_alone.Goals as goal

pub returns : goal.returns
returns c =
    let n = c.args.network.now in
    let work = c.in_ok-work.work in
    let put = put_from n work.tables.items work.merged.items c.in_ok-work.ensures.tables c.in_ok-work.ensures.merged c.args.table c.args.reader c.join.new.work.tables.items c.join.new.work.merged.items c.in_ok-join.ensures.put in
    one_found n c.requires.network c.args.table c.args.reader c.requires.can c.join.new.work.tables.items c.join.new.work.merged.items put c.in_ok-found.found c.in_ok-found.ensures.network c.in_ok-found.ensures.gone
