use Rattle.place_both.proofs.BothLemmas.{both-image}
use Rattle.place_both.proofs.laying.drawn.Goals as goal

pub returns : goal.returns
returns c =
    let are = c.requires.networks in
    let made = c.in_ok-pair.pair in
    let e = c.in_ok-pair.ensures in
    both-image c.args.list.now c.args.first.now c.args.second.now c.args.networks.now are made.whole made.first made.second e.tenants e.first_pins e.second_pins c.config.ensures.right c.config-2.ensures.right c.config-3.ensures.right e.shape e.free e.apart e.first_right e.second_right e.rows (record {
      one = c.args.networks.now.first;
      other = c.args.networks.now.second;
      plan = c.args.plan.now;
      one_is = are.first_for.network;
      other_is = are.second_for.network;
      first_rows = are.first_for.rows;
      second_rows = are.second_for.rows;
      first_no_more = are.first_for.tables;
      second_no_more = are.second_for.tables;
      choice = c.requires.choice;
      routed = e.routed;
    })
