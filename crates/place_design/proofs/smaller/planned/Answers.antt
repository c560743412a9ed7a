use Rattle.place_design.specs.Smaller.{IsImproved}
use Rattle.place_design.proofs.Fewer.{of_some}
use Rattle.place_design.proofs.smaller.planned.Goals as goal

pub returns-in-Some : goal.returns-in-Some
returns-in-Some c =
    let i = of_some (IsImproved c.args.defects.now c.args.network) _ c.in-Some.improved c.in-Some.is (c.in_ok-improved.ensures {u = tt}) in
    record {
      is = c.requires.is;
      plan = i.plan;
      fits = i.fits;
      layout = i.layout;
      lean = record { lead = c.requires.lead; shallow = c.requires.shallow; first = i.first; in_order = i.in_order; crossings = i.crossings };
    }
