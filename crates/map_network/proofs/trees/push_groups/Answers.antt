use Rattle.std.proofs.Common.{◌*◌, ◌-◌, ◌≤◌, drop, take, length, arith}
use Rattle.map_network.proofs.TreeLemmas.{push_group, group_cut}
use Rattle.map_network.proofs.trees.push_groups.Goals as goal

pub groups-preserved : goal.groups-preserved
groups-preserved c =
    let inside : 6 * c.groups.k ≤ length c.args.wants.now = omega arith in
    push_group c.args.gate c.args.tables.now.items c.groups.tables.items c.push_gate.new.tables.items c.args.wants.now (take (c.min-to.result - 6 * c.groups.k) (drop (6 * c.groups.k) c.args.wants.now)) c.groups.k c.groups.invariant (group_cut c.args.wants.now (6 * c.groups.k) c.min-to.result inside (omega arith)) (c.in_ok-push_gate.ensures {u = tt})
