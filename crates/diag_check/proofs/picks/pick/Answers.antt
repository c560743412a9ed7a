use Rattle.diag_check.proofs.Vocabulary.{◌≡◌, ◌≤◌, ◌∷◌, [], length, ap, arith, length-append}
use Rattle.diag_check.proofs.Picking.{side_pushed, picked_full, picked_all}
use Rattle.diag_check.proofs.picks.pick.Goals as goal

pub returns-in-None : goal.returns-in-None
returns-in-None c =
    let len = c.picks.invariant.len in
    let few : length c.picks.picked.items ≤ c.args.most = omega (arith, len) in
    picked_all c.args.shape.now c.args.side c.args.node.0 c.args.most c.picks.picked.items (c.the_numbering_is_sound.ensures.numbered c.args.shape.now) (c.ports_and_lines_ascend.ensures c.args.shape.now) c.picks.invariant.are few c.in-None.ensures.none

pub picks-preserved : goal.picks-preserved
picks-preserved c =
    let ws = c.picks.picked.items in
    let w = c.in-Some.wire in
    let more = c.in_ok-push-in-Some.ensures.items in
    let are = side_pushed c.args.shape.now c.args.side c.args.node.0 ws w c.picks.invariant.are c.in-Some.ensures.some.0 c.in-Some.ensures.some.1 in
    record {
      len = (let sum = length-append ws (w ∷ []) in let long = ap length more in let was = c.picks.invariant.len in omega (arith, sum, long, was));
      are = rw more are;
    }

pub returns : goal.returns
returns c =
    let full : length c.picks.picked.items ≡ c.args.most = (let len = c.picks.invariant.len in omega (arith, len)) in
    picked_full c.args.shape.now c.args.side c.args.node.0 c.args.most c.picks.picked.items c.picks.invariant.are full
