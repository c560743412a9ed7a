use Rattle.std.proofs.Common.{◌≡◌, ℕ, ◌<◌, ◌≤◌, List, Option, length, sym, subst, arith}
use Rattle.place_pair.proofs.Vocabulary.{All, Shape, most_ticks, tables_of, wires_of, Site, first_site, second_site, IsTenant}
use Rattle.machine_shape.specs.declared.Table.{Table}
use Rattle.place_pair.proofs.{Halving.first_in, Halving.second_in, Halving.split_of, Letting.Ground}
use Rattle.place_pair.proofs.Seating.{layout_wires, seats_for, inputs_for, outputs_for, seats_within, seats_apart, owners_for}
use Rattle.place_pair.proofs.pairing.split.Goals as goal

pub owners_by-requires-clause-wires : goal.owners_by-requires-clause-wires
owners_by-requires-clause-wires c =
    let sound = c.the_numbering_is_sound.ensures in
    let crosses = c.the_crosspoints_are_sound.ensures in
    layout_wires sound.numbered sound.tree sound.parents sound.meanings crosses.taps crosses.crosses c.ports_and_lines_ascend.ensures
    c.args.defects.now.shape c.args.defects.now.list c.args.network.now c.args.spot.now.plan.now c.args.spot.now.layout.now c.requires.network c.requires.plan c.requires.layout

pub tenant-requires-clause-owners : goal.tenant-requires-clause-owners
tenant-requires-clause-owners c =
    let layout = c.args.spot.now.layout.now in
    subst (λ (o : List (Option ℕ)). length o ≡ wires_of c.in_ok-whole.whole.config.shape) (sym c.deref.ensures.value)
    (owners_for c.args.defects.now.shape c.args.defects.now.list c.args.network.now c.args.spot.now.plan.now layout.nets.items layout.ports.items c.in_ok-owners.owners.items c.in_ok-whole.whole c.in_ok-owners.ensures c.in_ok-whole.ensures.route)

pub tenant-requires-clause-tables : goal.tenant-requires-clause-tables
tenant-requires-clause-tables c =
    let stands = first_in c.args.first.now c.args.second.now c.requires.pair.first c.requires.pair.second c.args.network.now c.first_of-one.result c.requires.joint c.first_of-one.ensures in
    seats_for c.args.defects.now.shape c.args.defects.now.list c.args.network.now c.args.spot.now.plan.now c.requires.plan c.first_of-one.result c.args.first.now stands

pub tenant-requires-clause-inputs : goal.tenant-requires-clause-inputs
tenant-requires-clause-inputs c =
    let stands = first_in c.args.first.now c.args.second.now c.requires.pair.first c.requires.pair.second c.args.network.now c.first_of-one.result c.requires.joint c.first_of-one.ensures in
    inputs_for c.args.defects.now.shape c.args.defects.now.list c.args.network.now c.args.spot.now.plan.now c.requires.plan c.first_of-one.result c.args.first.now stands c.in_ok-whole.whole c.in_ok-whole.ensures.route

pub tenant-requires-clause-outputs : goal.tenant-requires-clause-outputs
tenant-requires-clause-outputs c =
    let stands = first_in c.args.first.now c.args.second.now c.requires.pair.first c.requires.pair.second c.args.network.now c.first_of-one.result c.requires.joint c.first_of-one.ensures in
    outputs_for c.args.defects.now.shape c.args.defects.now.list c.args.network.now c.args.spot.now.plan.now c.requires.plan c.first_of-one.result c.args.first.now stands c.in_ok-whole.whole c.in_ok-whole.ensures.route

pub tenant-requires-clause-within : goal.tenant-requires-clause-within
tenant-requires-clause-within c =
    subst (λ (m : Shape). All (λ (t : Table). t.0 < tables_of m) c.args.spot.now.plan.now.tables) (sym c.in_ok-whole.ensures.route.routed.shape)
    (seats_within c.args.defects.now.shape c.args.defects.now.list c.args.network.now c.args.spot.now.plan.now c.requires.plan)

pub tenant-requires-clause-few : goal.tenant-requires-clause-few
tenant-requires-clause-few c =
    let few = c.requires.layout.few in
    let sized = c.requires.plan.tables in
    subst (λ (m : Shape). length c.args.spot.now.plan.now.tables ≤ most_ticks m) (sym c.in_ok-whole.ensures.route.routed.shape) (omega (arith, few, sized))

pub tenant-requires-clause-apart : goal.tenant-requires-clause-apart
tenant-requires-clause-apart c = seats_apart c.args.defects.now.shape c.args.defects.now.list c.args.network.now c.args.spot.now.plan.now c.requires.plan

pub tenant-requires-2-clause-owners : goal.tenant-requires-2-clause-owners
tenant-requires-2-clause-owners c =
    let layout = c.args.spot.now.layout.now in
    subst (λ (o : List (Option ℕ)). length o ≡ wires_of c.in_ok-whole.whole.config.shape) (sym c.deref-2.ensures.value)
    (owners_for c.args.defects.now.shape c.args.defects.now.list c.args.network.now c.args.spot.now.plan.now layout.nets.items layout.ports.items c.in_ok-owners.owners.items c.in_ok-whole.whole c.in_ok-owners.ensures c.in_ok-whole.ensures.route)

pub tenant-requires-2-clause-tables : goal.tenant-requires-2-clause-tables
tenant-requires-2-clause-tables c =
    let stands = second_in c.args.first.now c.args.second.now c.requires.pair.first c.requires.pair.second c.args.network.now c.second_of-two.result c.requires.joint c.second_of-two.ensures in
    seats_for c.args.defects.now.shape c.args.defects.now.list c.args.network.now c.args.spot.now.plan.now c.requires.plan c.second_of-two.result c.args.second.now stands

pub tenant-requires-2-clause-inputs : goal.tenant-requires-2-clause-inputs
tenant-requires-2-clause-inputs c =
    let stands = second_in c.args.first.now c.args.second.now c.requires.pair.first c.requires.pair.second c.args.network.now c.second_of-two.result c.requires.joint c.second_of-two.ensures in
    inputs_for c.args.defects.now.shape c.args.defects.now.list c.args.network.now c.args.spot.now.plan.now c.requires.plan c.second_of-two.result c.args.second.now stands c.in_ok-whole.whole c.in_ok-whole.ensures.route

pub tenant-requires-2-clause-outputs : goal.tenant-requires-2-clause-outputs
tenant-requires-2-clause-outputs c =
    let stands = second_in c.args.first.now c.args.second.now c.requires.pair.first c.requires.pair.second c.args.network.now c.second_of-two.result c.requires.joint c.second_of-two.ensures in
    outputs_for c.args.defects.now.shape c.args.defects.now.list c.args.network.now c.args.spot.now.plan.now c.requires.plan c.second_of-two.result c.args.second.now stands c.in_ok-whole.whole c.in_ok-whole.ensures.route

pub tenant-requires-2-clause-within : goal.tenant-requires-2-clause-within
tenant-requires-2-clause-within c =
    subst (λ (m : Shape). All (λ (t : Table). t.0 < tables_of m) c.args.spot.now.plan.now.tables) (sym c.in_ok-whole.ensures.route.routed.shape)
    (seats_within c.args.defects.now.shape c.args.defects.now.list c.args.network.now c.args.spot.now.plan.now c.requires.plan)

pub tenant-requires-2-clause-few : goal.tenant-requires-2-clause-few
tenant-requires-2-clause-few c =
    let few = c.requires.layout.few in
    let sized = c.requires.plan.tables in
    subst (λ (m : Shape). length c.args.spot.now.plan.now.tables ≤ most_ticks m) (sym c.in_ok-whole.ensures.route.routed.shape) (omega (arith, few, sized))

pub tenant-requires-2-clause-apart : goal.tenant-requires-2-clause-apart
tenant-requires-2-clause-apart c = seats_apart c.args.defects.now.shape c.args.defects.now.list c.args.network.now c.args.spot.now.plan.now c.requires.plan

pub returns-clause-parts : goal.returns-clause-parts
returns-clause-parts c =
    let m : Shape = c.args.defects.now.shape in
    let d = c.args.defects.now.list in
    let n = c.args.first.now in
    let o = c.args.second.now in
    let p = c.args.spot.now.plan.now in
    let l = c.args.spot.now.layout.now in
    let whole = c.in_ok-whole.whole in
    let owners : List (Option ℕ) = c.in_ok-owners.owners.items in
    let ground : Ground m d c.args.network.now p l owners whole = record {
      numbered = c.the_numbering_is_sound.ensures.numbered;
      tree = c.the_numbering_is_sound.ensures.tree;
      network = c.requires.network;
      plan = c.requires.plan;
      layout = c.requires.layout;
      owners_are = c.in_ok-owners.ensures;
      route = c.in_ok-whole.ensures.route;
    } in
    let one : IsTenant (first_site n o) n p owners whole c.in_ok-first.first = subst (λ (z : Site). IsTenant z n p owners whole c.in_ok-first.first) c.first_of-one.ensures
    (subst (λ (z : List (Option ℕ)). IsTenant c.first_of-one.result n p z whole c.in_ok-first.first) c.deref.ensures.value c.in_ok-first.ensures) in
    let two : IsTenant (second_site n o) o p owners whole c.in_ok-second.second = subst (λ (z : Site). IsTenant z o p owners whole c.in_ok-second.second) c.second_of-two.ensures
    (subst (λ (z : List (Option ℕ)). IsTenant c.second_of-two.result o p z whole c.in_ok-second.second) c.deref-2.ensures.value c.in_ok-second.ensures) in
    split_of n o c.requires.pair.first c.requires.pair.second m d p l owners whole c.args.network.now c.requires.joint ground c.in_ok-first.first c.in_ok-second.second one two c.in_ok-whole.ensures.free c.in_ok-whole.ensures.rows c.networks_have_one_list_of_rows.ensures

pub returns-clause-routed : goal.returns-clause-routed
returns-clause-routed c = c.in_ok-whole.ensures.routed c.requires.fits
