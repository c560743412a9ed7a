use Rattle.diag_check.proofs.Vocabulary.{◌<◌, length, arith, at_index}
use Rattle.diag_check.proofs.Fielding.{pick_wires, root_joints, up_joints}
use Rattle.diag_check.proofs.fields.join_node.Goals as goal

pub returns-in_default-clause-wires : goal.returns-in_default-clause-wires
returns-in_default-clause-wires c =
    let within : c.args.node.0 < length c.args.frame.now.picks.items = (let node = c.requires.node in let len = c.requires.frame.len in omega (arith, node, len)) in
    let here = at_index c.args.frame.now.picks.items c.args.node.0 c.index-here.result.now within c.index-here.ensures in
    pick_wires c.args.shape.now c.args.frame.now c.args.node.0 c.index-here.result.now here (c.requires.frame.each c.args.node.0 c.index-here.result.now here) c.join_own.ensures.wires

pub returns-in_default-clause-crosses : goal.returns-in_default-clause-crosses
returns-in_default-clause-crosses c =
    let within : c.args.node.0 < length c.args.frame.now.picks.items = (let node = c.requires.node in let len = c.requires.frame.len in omega (arith, node, len)) in
    let here = at_index c.args.frame.now.picks.items c.args.node.0 c.index-here.result.now within c.index-here.ensures in
    root_joints c.args.shape.now c.args.frame.now c.args.node.0 c.index-here.result.now here (c.requires.frame.each c.args.node.0 c.index-here.result.now here) c.join_own.ensures.crosses c.in_default.ensures.none.0

pub meet_all-requires-clause-taps : goal.meet_all-requires-clause-taps
meet_all-requires-clause-taps c =
    let within : c.args.node.0 < length c.args.frame.now.picks.items = (let node = c.requires.node in let len = c.requires.frame.len in omega (arith, node, len)) in
    (c.requires.frame.each c.args.node.0 c.index-here.result.now (at_index c.args.frame.now.picks.items c.args.node.0 c.index-here.result.now within c.index-here.ensures)).own

pub meet_all-requires-clause-lines : goal.meet_all-requires-clause-lines
meet_all-requires-clause-lines c =
    let within : c.in-Some.parent.0 < length c.args.frame.now.picks.items = (let node = c.in-Some.ensures.some.1 in let len = c.requires.frame.len in omega (arith, node, len)) in
    (c.requires.frame.each c.in-Some.parent.0 c.index-above.result.now (at_index c.args.frame.now.picks.items c.in-Some.parent.0 c.index-above.result.now within c.index-above.ensures)).lines

pub returns-clause-wires : goal.returns-clause-wires
returns-clause-wires c =
    let within : c.args.node.0 < length c.args.frame.now.picks.items = (let node = c.requires.node in let len = c.requires.frame.len in omega (arith, node, len)) in
    let here = at_index c.args.frame.now.picks.items c.args.node.0 c.index-here.result.now within c.index-here.ensures in
    pick_wires c.args.shape.now c.args.frame.now c.args.node.0 c.index-here.result.now here (c.requires.frame.each c.args.node.0 c.index-here.result.now here) c.join_own.ensures.wires

pub returns-clause-crosses : goal.returns-clause-crosses
returns-clause-crosses c =
    let within : c.args.node.0 < length c.args.frame.now.picks.items = (let node = c.requires.node in let len = c.requires.frame.len in omega (arith, node, len)) in
    let here = at_index c.args.frame.now.picks.items c.args.node.0 c.index-here.result.now within c.index-here.ensures in
    let over : c.in-Some.parent.0 < length c.args.frame.now.picks.items = (let node = c.in-Some.ensures.some.1 in let len = c.requires.frame.len in omega (arith, node, len)) in
    let there = at_index c.args.frame.now.picks.items c.in-Some.parent.0 c.index-above.result.now over c.index-above.ensures in
    up_joints c.args.shape.now c.args.frame.now c.args.node.0 c.index-here.result.now here (c.requires.frame.each c.args.node.0 c.index-here.result.now here) c.in-Some.parent.0 c.index-above.result.now
    c.join_own.ensures.crosses c.in-Some.ensures.some.0 there (c.requires.frame.each c.in-Some.parent.0 c.index-above.result.now there) c.meet_all.ensures
