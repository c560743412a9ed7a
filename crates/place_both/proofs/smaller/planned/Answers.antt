use Rattle.place_both.proofs.Vocabulary.{joint_network, IsImproved, of_some}
use Rattle.place_both.proofs.smaller.planned.Goals as goal

pub improved_for-requires : goal.improved_for-requires
improved_for-requires c = let are = c.requires in record { first = are.first_for.is.network; second = are.second_for.is.network; inputs = are.few.0; tables = are.few.1 }

pub returns-in-Some : goal.returns-in-Some
returns-in-Some c =
    let are = c.requires in
    let n = joint_network c.args.networks.first c.args.networks.second in
    let i = of_some (IsImproved c.args.list.now n) _ c.in-Some.improved c.in-Some.is (c.in_ok-improved.ensures {u = tt}) in
    record {
      are = are;
      plan = i.plan;
      fits = i.fits;
      lean = record {
        first_lead = are.first_for.lead;
        second_lead = are.second_for.lead;
        first_shallow = are.first_for.shallow;
        second_shallow = are.second_for.shallow;
        before = i.first;
        in_order = i.in_order;
        crossings = i.crossings;
      };
    }
