use Rattle.diag_check.proofs.Vocabulary.{◌≡◌, ◌<◌, Some, length, subst, arith, slice_get, at_index}
use Rattle.diag_check.proofs.Fielding.{hung_on}
use Rattle.diag_check.proofs.fields.hang_wire.Goals as goal

pub returns-clause-crosses : goal.returns-clause-crosses
returns-clause-crosses c =
    let node = c.node_of-node.result.0 in
    let p = c.index.result.now in
    let within : node < length c.args.frame.now.picks.items = (let l = c.node_of-node.ensures.within in let len = c.requires.frame.len in omega (arith, l, len)) in
    let at = at_index c.args.frame.now.picks.items node p within c.index.ensures in
    let here = subst (λ k. slice_get c.args.frame.now.picks.items k ≡ Some p) c.node_of-node.ensures.node at in
    hung_on c.args.shape.now c.args.frame.now c.args.wire.0 p here (c.requires.frame.each node p at) c.hang.ensures.crosses
