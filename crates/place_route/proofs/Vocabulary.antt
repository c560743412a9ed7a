-- What the proofs here cite of the layers below, and of the specs.
pub use Rattle.std.proofs.Common.{Bool, IfNone, IfSome, IsSome, List, None, Option, Some, [], ap, arith, get_or, inl, inr, length, refl}
pub use Rattle.std.proofs.Common.{subst, sym, take, true, ℕ, ◌*◌, ◌<◌, ◌∙◌, ◌≡◌, ◌≢◌, ◌≤◌}
pub use Rattle.std.proofs.lemmas.Bool.{cases_Bool, cases_eq, cases_lt, cases_order, eq-eqb, false≢true, lt-ltb, ne_eqb, or_cases}
pub use Rattle.std.proofs.lemmas.List.{ext_get_or, get_or-map, get_or_default, get_or_past, get_or_read, length-map, take_at, take_more}
pub use Rattle.std.proofs.lemmas.List.Elements.{All-contains, Contains-get_or}
pub use Rattle.std.proofs.lemmas.List.FromFn.{get_or-map-range_with_len, length-map-range_with_len}
pub use Rattle.std.specs.BTreeMap.{BTreeMap, is_at}
pub use Rattle.std.specs.Cmp.{Equal-is, eq_by_cmp_equiv, nat_cmp_total, unsigned_tied}
pub use Rattle.std.specs.FinSet.{contains, contains-empty, contains-insert, len-empty, len-insert, nat_cmp-IsAntisymmetric}
pub use Rattle.std.specs.List.{All, AllPairs, Contains, range_with_len}
pub use Rattle.std.specs.Ordering.{eq_by_cmp, nat_cmp}
pub use Rattle.machine_shape.specs.declared.Shape.{Shape}
pub use Rattle.machine_shape.specs.Vocabulary.{HasCrosses, HasMeanings, HasParents, HasSites, HasTaps, IsNumbered, IsTree, in_order}
unfoldable pub use Rattle.machine_shape.specs.Vocabulary.{IsLine, IsPort, crosses_of, ends_of, is_small, levels_of, most_closed, most_ticks}
unfoldable pub use Rattle.machine_shape.specs.Vocabulary.{node_of, nodes_of, parent_of, pin_wire, pins_of, tables_of, wires_of}
pub use Rattle.machine_shape.proofs.HighLimits.{high_limits, small_is}
pub use Rattle.machine_meaning.specs.Vocabulary.{Covers, Defects, Faults, IsFreeCross, IsFreeTable, Joined, crossed, here, plain_net, then}
pub use Rattle.machine_config.specs.Vocabulary.{Configuration, cleared, is_closed, setting_of, with_closed, with_ticks}
pub use Rattle.map_network.specs.declared.network.Network.{Network}
pub use Rattle.map_network.specs.declared.source.Source.{Source}
pub use Rattle.map_network.specs.declared.source.Source.TheVariants.{Input, Table}
pub use Rattle.map_network.specs.Vocabulary.{AreRows, HasRowsOf, IsDeepest, IsNetwork, IsSourceOf, bit_of, no_table, table_at}
pub use Rattle.place_plan.specs.declared.plan.Plan.{Plan}
pub use Rattle.place_plan.specs.declared.short.Port.{Port}
pub use Rattle.place_plan.specs.declared.short.Visit.{Visit}
pub use Rattle.place_plan.specs.declared.tree.NetSide.{NetSide}
pub use Rattle.place_plan.specs.declared.tree.NetSide.TheVariants.{Child, Outside, Own}
pub use Rattle.place_plan.specs.Plans.{net_of}
pub use Rattle.place_plan.specs.Vocabulary.{AreWires, HasTerminal, IsPlan, IsTerminal, driver_of, drives, nets_in, number_of, place_of}
pub use Rattle.place_plan.specs.Vocabulary.{places, port_for, reads, shows, visit_for}
pub use Rattle.place_plan.proofs.PlanNets.{few_below, sized_is, terminal_net, terminal_within}
pub use Rattle.place_plan.proofs.Those.{different_at, not_in_nil, same_place, those_unique}
pub use Rattle.machine_image.specs.Vocabulary.{ImageValue, IsFreeImage, drive_on, row_at, tables_on}
pub use Rattle.machine_image.proofs.Driven.{drive_low, drive_pin, edge_of, first_of, number_below, same_map, tick_of}
pub use Rattle.place_route.specs.Vocabulary.{AreLines, AreOwners, AreTerminals, AreWiresOf, Closes, HasLine, HoldsPort, IsClaimedBy}
pub use Rattle.place_route.specs.Vocabulary.{IsJoined, IsLaidBy, IsMarked, IsOwnedJoint, IsPut, IsRouted, SwitchesOn, line_in, reader_of}
