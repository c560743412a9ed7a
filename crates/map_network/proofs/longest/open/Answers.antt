use Rattle.map_network.proofs.SearchLemmas.{opened_to}
use Rattle.map_network.proofs.longest.open.Goals as goal

pub returns-clause-searching : goal.returns-clause-searching
returns-clause-searching c = opened_to c.args.network.now c.args.search.now.marks.items c.args.search.now.path.items c.requires.searching c.args.table c.requires.fresh c.requires.read c.push.new.self.items c.in_ok-push.ensures.items
