use Rattle.place_design.proofs.Vocabulary.{IsBetterLaid, IsInOrder}
use Rattle.place_design.proofs.Fewer.{no-more-from, of_some}
use Rattle.place_design.proofs.smaller.found_plan.Goals as goal

pub returns : goal.returns
returns c =
    let D = c.args.defects.now in
    let n = c.args.network.now in
    let p = c.in-Some.plan in
    let first = of_some (IsInOrder D.shape D.list n) _ p c.in-Some.is c.in_ok-plan.ensures.in_order in
    let b = of_some (IsBetterLaid D.shape D.list n p) _ c.in-Some-2.placed c.in-Some-2.is (c.in_ok-placed.ensures {u = tt}) in
    record {
      plan = b.better.plan;
      fits = b.better.fits;
      layout = b.layout;
      first = p;
      in_order = first;
      crossings = no-more-from D.shape n p c.in-Some-2.placed.plan b.better.crossings;
    }
