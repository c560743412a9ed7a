use Rattle.map_network.proofs.Vocabulary.{List, Bool, length, ap, ◌∙◌, subst, IsCompacted}
use Rattle.map_network.proofs.ReducedLemmas.{found_network, found_marks, found_smaller}
use Rattle.map_network.proofs.merge.reduce_from.Goals as goal

pub compacted-requires-clause-network : goal.compacted-requires-clause-network
compacted-requires-clause-network c = found_network c.args.network c.args.table c.in_ok-found.found c.requires.network c.in_ok-found.ensures

pub compacted-requires-clause-len : goal.compacted-requires-clause-len
compacted-requires-clause-len c = ap length c.deref.ensures.value ∙ found_marks c.args.network c.args.table c.in_ok-found.found c.in_ok-found.ensures

pub returns : goal.returns
returns c =
    let found = c.in_ok-found.found in
    found_smaller c.args.network c.requires.network c.args.table c.requires.can.combinational.within found c.in_ok-found.ensures c.in_ok-smaller.smaller
    (subst (λ (marks : List Bool). IsCompacted found.network marks c.in_ok-smaller.smaller) c.deref.ensures.value c.in_ok-smaller.ensures)
