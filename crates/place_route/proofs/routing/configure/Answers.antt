use Rattle.std.proofs.Common.{◌≡◌, ◌≢◌, ◌≤◌, ◌<◌, List, All, AllPairs, length, sym, ap, ◌∙◌, subst}
use Rattle.machine_shape.specs.declared.Table.{Table}
use Rattle.place_route.proofs.Vocabulary.{most_ticks, tables_of, pins_of, Configuration, SwitchesOn, AreWiresOf, IsJoined, IsRouted}
use Rattle.map_network.specs.declared.network.NetTable.{NetTable}
use Rattle.place_route.proofs.Making.{numbering}
use Rattle.place_route.proofs.Whole.{made_of, switched_shape, wires_are, nets_few, tables_few, ticks_few, seats_within, seats_apart}
use Rattle.place_route.proofs.routing.configure.Goals as goal

pub ticks_of-requires-clause-few : goal.ticks_of-requires-clause-few
ticks_of-requires-clause-few c =
    let m = c.args.defects.now.shape in
    let laws = numbering c.the_numbering_is_sound.ensures.numbered c.the_numbering_is_sound.ensures.tree c.the_numbering_is_sound.ensures.parents c.the_numbering_is_sound.ensures.meanings c.the_crosspoints_are_sound.ensures.taps c.the_crosspoints_are_sound.ensures.crosses c.ports_and_lines_ascend.ensures m in
    tables_few m c.args.defects.now.list c.args.network.now c.args.plan.now c.args.layout.now.nets.items c.args.layout.now.ports.items c.args.layout.now.visits.items laws c.requires.network c.requires.plan c.requires.laid

pub join_nets-requires-clause-few : goal.join_nets-requires-clause-few
join_nets-requires-clause-few c =
    let m = c.args.defects.now.shape in
    let laws = numbering c.the_numbering_is_sound.ensures.numbered c.the_numbering_is_sound.ensures.tree c.the_numbering_is_sound.ensures.parents c.the_numbering_is_sound.ensures.meanings c.the_crosspoints_are_sound.ensures.taps c.the_crosspoints_are_sound.ensures.crosses c.ports_and_lines_ascend.ensures m in
    nets_few m c.args.defects.now.list c.args.network.now c.args.plan.now c.args.layout.now.nets.items c.args.layout.now.ports.items c.args.layout.now.visits.items laws c.requires.network c.requires.plan c.requires.laid
    (subst (λ s. tables_of s ≤ 65536) c.shape-shape.ensures.shape c.counts_are_few.ensures.tables) (subst (λ s. pins_of s ≤ 16384) c.shape-shape.ensures.shape c.counts_are_few.ensures.pins)

pub join_nets-requires-clause-wires : goal.join_nets-requires-clause-wires
join_nets-requires-clause-wires c =
    let m = c.args.defects.now.shape in
    let laws = numbering c.the_numbering_is_sound.ensures.numbered c.the_numbering_is_sound.ensures.tree c.the_numbering_is_sound.ensures.parents c.the_numbering_is_sound.ensures.meanings c.the_crosspoints_are_sound.ensures.taps c.the_crosspoints_are_sound.ensures.crosses c.ports_and_lines_ascend.ensures m in
    subst (λ s. AreWiresOf s c.args.layout.now.nets.items c.args.layout.now.ports.items c.args.layout.now.visits.items) (sym c.shape-shape.ensures.shape) (wires_are m c.args.defects.now.list c.args.network.now c.args.plan.now c.args.layout.now.nets.items c.args.layout.now.ports.items c.args.layout.now.visits.items laws c.requires.network c.requires.plan c.requires.laid)

pub switch_all_on-requires-clause-within : goal.switch_all_on-requires-clause-within
switch_all_on-requires-clause-within c =
    let m = c.args.defects.now.shape in
    let laws = numbering c.the_numbering_is_sound.ensures.numbered c.the_numbering_is_sound.ensures.tree c.the_numbering_is_sound.ensures.parents c.the_numbering_is_sound.ensures.meanings c.the_crosspoints_are_sound.ensures.taps c.the_crosspoints_are_sound.ensures.crosses c.ports_and_lines_ascend.ensures m in
    let within = seats_within m c.args.defects.now.list c.args.network.now c.args.plan.now c.args.layout.now.nets.items c.args.layout.now.ports.items c.args.layout.now.visits.items laws c.requires.network c.requires.plan c.requires.laid in
    let joined : IsJoined c.shape-shape.result c.args.layout.now.nets.items c.args.layout.now.ports.items c.args.layout.now.visits.items c.in_ok-config.config.config = c.in_ok-config.ensures in
    let shape : c.in_ok-config.config.config.shape ≡ m = ap (λ (g : Configuration). g.shape) joined.closed.rest ∙ c.shape-shape.ensures.shape in
    subst (λ (ts : List Table). All (λ t. t.0 < tables_of c.in_ok-config.config.config.shape) ts) (sym c.as_slice.ensures) (subst (λ s. All (λ (t : Table). t.0 < tables_of s) c.args.plan.now.tables) (sym shape) within)

pub switch_all_on-requires-clause-apart : goal.switch_all_on-requires-clause-apart
switch_all_on-requires-clause-apart c =
    let m = c.args.defects.now.shape in
    let laws = numbering c.the_numbering_is_sound.ensures.numbered c.the_numbering_is_sound.ensures.tree c.the_numbering_is_sound.ensures.parents c.the_numbering_is_sound.ensures.meanings c.the_crosspoints_are_sound.ensures.taps c.the_crosspoints_are_sound.ensures.crosses c.ports_and_lines_ascend.ensures m in
    let apart = seats_apart m c.args.defects.now.list c.args.network.now c.args.plan.now c.args.layout.now.nets.items c.args.layout.now.ports.items c.args.layout.now.visits.items laws c.requires.network c.requires.plan c.requires.laid in
    subst (λ (ts : List Table). AllPairs (λ t u. t.0 ≢ u.0) ts) (sym c.as_slice.ensures) apart

pub set_ticks-requires-clause-few : goal.set_ticks-requires-clause-few
set_ticks-requires-clause-few c =
    let m = c.args.defects.now.shape in
    let laws = numbering c.the_numbering_is_sound.ensures.numbered c.the_numbering_is_sound.ensures.tree c.the_numbering_is_sound.ensures.parents c.the_numbering_is_sound.ensures.meanings c.the_crosspoints_are_sound.ensures.taps c.the_crosspoints_are_sound.ensures.crosses c.ports_and_lines_ascend.ensures m in
    let mid = c.in_ok-config.config.config in
    let second = c.switch_all_on.new.config.config in
    let joined : IsJoined m c.args.layout.now.nets.items c.args.layout.now.ports.items c.args.layout.now.visits.items mid = subst (λ s. IsJoined s c.args.layout.now.nets.items c.args.layout.now.ports.items c.args.layout.now.visits.items mid) c.shape-shape.ensures.shape c.in_ok-config.ensures in
    let tables : SwitchesOn c.as_slice.result.now c.args.network.now.tables (length c.as_slice.result.now) mid second = subst (λ (us : List NetTable). SwitchesOn c.as_slice.result.now us (length c.as_slice.result.now) mid second) c.as_slice-2.ensures c.switch_all_on.ensures in
    let on : SwitchesOn c.args.plan.now.tables c.args.network.now.tables (length c.args.plan.now.tables) mid second = subst (λ (ts : List Table). SwitchesOn ts c.args.network.now.tables (length ts) mid second) c.as_slice.ensures tables in
    subst (λ s. c.in_ok-ticks.ticks ≤ most_ticks s) (sym (switched_shape m c.args.defects.now.list c.args.network.now c.args.plan.now c.args.layout.now.nets.items c.args.layout.now.ports.items c.args.layout.now.visits.items laws c.requires.network c.requires.plan c.requires.laid mid second joined on))
    (ticks_few m c.args.defects.now.list c.args.network.now c.args.plan.now c.args.layout.now.nets.items c.args.layout.now.ports.items c.args.layout.now.visits.items laws c.requires.network c.requires.plan c.requires.laid c.in_ok-ticks.ticks c.in_ok-ticks.ensures.few)

pub returns-clause-routed : goal.returns-clause-routed
returns-clause-routed c =
    let m = c.args.defects.now.shape in
    let laws = numbering c.the_numbering_is_sound.ensures.numbered c.the_numbering_is_sound.ensures.tree c.the_numbering_is_sound.ensures.parents c.the_numbering_is_sound.ensures.meanings c.the_crosspoints_are_sound.ensures.taps c.the_crosspoints_are_sound.ensures.crosses c.ports_and_lines_ascend.ensures m in
    let mid = c.in_ok-config.config.config in
    let second = c.switch_all_on.new.config.config in
    let joined : IsJoined m c.args.layout.now.nets.items c.args.layout.now.ports.items c.args.layout.now.visits.items mid = subst (λ s. IsJoined s c.args.layout.now.nets.items c.args.layout.now.ports.items c.args.layout.now.visits.items mid) c.shape-shape.ensures.shape c.in_ok-config.ensures in
    let tables : SwitchesOn c.as_slice.result.now c.args.network.now.tables (length c.as_slice.result.now) mid second = subst (λ (us : List NetTable). SwitchesOn c.as_slice.result.now us (length c.as_slice.result.now) mid second) c.as_slice-2.ensures c.switch_all_on.ensures in
    let on : SwitchesOn c.args.plan.now.tables c.args.network.now.tables (length c.args.plan.now.tables) mid second = subst (λ (ts : List Table). SwitchesOn ts c.args.network.now.tables (length ts) mid second) c.as_slice.ensures tables in
    subst (IsRouted m c.args.defects.now.list c.args.network.now c.args.plan.now c.args.layout.now.ports.items c.args.layout.now.visits.items) (sym (ap (λ r. r.config) c.set_ticks.ensures))
    (made_of m c.args.defects.now.list c.args.network.now c.args.plan.now c.args.layout.now.nets.items c.args.layout.now.ports.items c.args.layout.now.visits.items laws c.requires.network c.requires.plan c.requires.laid mid second c.in_ok-ticks.ticks joined on)
