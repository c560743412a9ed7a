use Rattle.diag_known.proofs.Vocabulary.{◌<◌, ◌≤◌, ◌+◌, ◌∙◌, length, arith, length-set}
use Rattle.diag_known.proofs.Reaching.{wire_within, marked, unmarked, all_taken}
use Rattle.diag_known.specs.declared.beside.Reach.TheVariants as reach
use Rattle.diag_known.proofs.beside.put_route.Goals as goal

pub index_mut-requires : goal.index_mut-requires
index_mut-requires c =
    let within : c.wire_at.result.0 < length c.wires.reaches.items = wire_within c.args.route.now.wires c.requires c.wires.invariant.len c.wires.k c.wire_at.result.0 (omega arith) c.wire_at.ensures in
    omega (arith, within)

pub wires-preserved : goal.wires-preserved
wires-preserved c =
    let below : c.wires.k < length c.args.route.now.wires = omega arith in
    let within = wire_within c.args.route.now.wires c.requires c.wires.invariant.len c.wires.k c.wire_at.result.0 below c.wire_at.ensures in
    record {
      len = length-set c.wires.reaches.items c.wire_at.result.0 reach.OnRoute ∙ c.wires.invariant.len;
      on = marked c.args.route.now.wires c.wires.k c.wire_at.result.0 below c.wire_at.ensures c.wires.reaches.items within c.wires.invariant.on;
      off = λ w out. unmarked c.args.route.now.wires c.wires.k c.wire_at.result.0 below c.wire_at.ensures c.wires.reaches.items within w out ∙ c.wires.invariant.off w out;
    }

pub returns-2-clause-on : goal.returns-2-clause-on
returns-2-clause-on c =
    let below : c.wires.k < length c.args.route.now.wires = omega arith in
    let within = wire_within c.args.route.now.wires c.requires c.wires.invariant.len c.wires.k c.wire_at.result.0 below c.wire_at.ensures in
    let whole : length c.args.route.now.wires ≤ c.wires.k + 1 = omega arith in
    λ w is. marked c.args.route.now.wires c.wires.k c.wire_at.result.0 below c.wire_at.ensures c.wires.reaches.items within c.wires.invariant.on w (all_taken c.args.route.now.wires (c.wires.k + 1) w whole is)

pub returns-2-clause-off : goal.returns-2-clause-off
returns-2-clause-off c = λ w out.
    let below : c.wires.k < length c.args.route.now.wires = omega arith in
    let within = wire_within c.args.route.now.wires c.requires c.wires.invariant.len c.wires.k c.wire_at.result.0 below c.wire_at.ensures in
    unmarked c.args.route.now.wires c.wires.k c.wire_at.result.0 below c.wire_at.ensures c.wires.reaches.items within w out ∙ c.wires.invariant.off w out
