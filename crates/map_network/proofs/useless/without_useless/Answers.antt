use Rattle.map_network.proofs.Vocabulary.{List, Bool, IsCompacted}
use Rattle.map_network.proofs.PruneLemmas.{pruned_some}
use Rattle.map_network.proofs.useless.without_useless.Goals as goal

pub returns : goal.returns
returns c =
    let n = c.args.network in
    let marks : List Bool = c.in_ok-marks.marks.items in
    let found = c.is_some_marked.ensures.some c.if-not-is_some_marked.false in
    let some = rw c.deref.ensures.value at found in
    let smaller : IsCompacted n marks c.in_ok-smaller.smaller = rw c.deref-2.ensures.value at (c.in_ok-smaller.ensures {u = tt}) in
    pruned_some n marks (c.in_ok-marks.ensures {u = tt}) c.in_ok-smaller.smaller c.requires smaller some.0 some.1 some.2
