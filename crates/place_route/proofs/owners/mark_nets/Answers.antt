use Rattle.place_route.proofs.Vocabulary.{◌≡◌, ℕ, List, [], get_or, ◌∙◌, arith, get_or_read, IsMarked, IsClaimedBy}
use Rattle.place_route.proofs.Marking.{net_more, nets_end}
use Rattle.place_route.proofs.owners.mark_nets.Goals as goal

pub loop-k-preserved : goal.loop-k-preserved
loop-k-preserved c =
    let nets : List (List ℕ) = c.args.nets.now in
    let here : c.as_slice.result.now ≡ get_or nets c.loop-k.k [] = c.as_slice.ensures ∙ get_or_read nets c.loop-k.k _ c.loop-k-test.true c.index-nets-k.is [] in
    let step : IsMarked (IsClaimedBy c.loop-k.k c.as_slice.result.now) c.loop-k.owners c.mark_net.new.owners = c.mark_net.ensures in
    net_more nets c.loop-k.k c.args.owners.now c.loop-k.owners c.mark_net.new.owners c.loop-k.invariant (rw here at step)

pub returns : goal.returns
returns c = nets_end c.args.nets.now c.loop-k.k c.args.owners.now c.loop-k.owners (omega arith) c.loop-k.invariant
