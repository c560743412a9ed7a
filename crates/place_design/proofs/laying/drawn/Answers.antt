use Rattle.std.proofs.Common.{◌∙◌, ap, length}
use Rattle.place_design.proofs.laying.drawn.Goals as goal

pub returns : goal.returns
returns c =
    let made = c.in_ok-image.ensures in
    record {
      image = c.config.ensures.right;
      shape = made.route.routed.shape;
      inputs = ap length made.route.inputs ∙ (c.requires.plan.inputs ∙ c.requires.inputs);
      outputs = ap length made.route.outputs ∙ (c.requires.plan.outputs ∙ c.requires.outputs);
      free = made.free;
      routed = record {
        network = c.args.network.now;
        plan = c.args.placed.now.plan;
        is_network = c.requires.network;
        rows = c.requires.rows;
        no_more = c.requires.tables;
        fits = c.requires.fits;
        choice = c.requires.choice;
        routed = made.routed c.requires.fits;
      };
      right = λ f covers. made.right c.args.netlist.now f c.requires.rows covers;
    }
