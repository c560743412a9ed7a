-- What the proofs here cite of the layers below, and of the specs.
pub use Rattle.std.proofs.Common.{Bool, IfNone, IfSome, List, MatchOption, None, Option, Some, [], ap, append_assoc, arith, count_by, false}
pub use Rattle.std.proofs.Common.{get_or, length, map, min, refl, rules, subst, suc, sym, take, ℕ, ◌++◌, ◌+◌, ◌-◌, ◌<◌, ◌==◌, ◌^◌, ◌||◌}
pub use Rattle.std.proofs.Common.{◌∙◌, ◌∷◌, ◌≡◌, ◌≢◌, ◌≤◌}
pub use Rattle.std.proofs.Math.Dec.{T}
pub use Rattle.std.proofs.lemmas.Bool.{and_parts, cases_eq, cases_lt, cases_order, false_from_ne_true, false≢true, lt-ltb, not-true}
pub use Rattle.std.proofs.lemmas.Bool.{not_from_false}
pub use Rattle.std.proofs.lemmas.Grind.{common_steps}
pub use Rattle.std.proofs.lemmas.List.{drop-take, flat_map_more, get_or-map, get_or-take, get_or_default, get_or_past, get_or_read}
pub use Rattle.std.proofs.lemmas.List.{length-map, length-set, length_push, map-append, map-id, set-get_or, set_split, take-append-drop}
pub use Rattle.std.proofs.lemmas.List.{take-take, take_all, take_at, take_more}
pub use Rattle.std.proofs.lemmas.List.Elements.{All-contains, All-contains_itself, All-filter, All-get_or, All-head, All-more, All-push}
pub use Rattle.std.proofs.lemmas.List.Elements.{All-tail, All-take, All-weaker, Contains-append_cases, Contains-append_left}
pub use Rattle.std.proofs.lemmas.List.Elements.{Contains-append_right, Contains-get_or, Contains-push, filter-append}
pub use Rattle.std.proofs.lemmas.List.Folds.{Any-from_list_any, list_any-from_Any, list_any_more}
pub use Rattle.std.proofs.lemmas.List.Kept.{AllPairs-filter}
pub use Rattle.std.proofs.lemmas.List.Quantifiers.{all_pairs_push}
pub use Rattle.std.proofs.lemmas.List.Sums.{count_by_more_no, count_by_more_yes, length-filter, sum_by-cons}
pub use Rattle.std.specs.List.{All, AllPairs, Contains, filter, flat_map, list_any, range_with_len}
pub use Rattle.machine_shape.specs.declared.Shape.{Shape}
pub use Rattle.machine_shape.specs.Vocabulary.{HasCrosses, HasParents, HasTaps, IsAbove, IsTree, below, itself, tap_port}
unfoldable pub use Rattle.machine_shape.specs.Vocabulary.{IsPort, crosses_of, ends_of, most_ticks, node_of, nodes_of, own_ports_of}
unfoldable pub use Rattle.machine_shape.specs.Vocabulary.{parent_of, pin_wire, pins_of, port_at, table_wire, tables_of, wires_of}
pub use Rattle.machine_shape.proofs.Halves.{All-left, All-right}
pub use Rattle.machine_meaning.specs.Vocabulary.{Defects, IsFreeCross, IsFreeTable, IsFreeWire}
pub use Rattle.machine_defects.specs.Vocabulary.{DefectList, has_free_ends, is_free_cross, is_free_wire}
pub use Rattle.map_network.specs.declared.network.NetTable.{NetTable}
pub use Rattle.map_network.specs.declared.network.Network.{Network}
pub use Rattle.map_network.specs.declared.source.Source.{Source}
pub use Rattle.map_network.specs.Vocabulary.{IsNetwork, IsSourceOf, no_table, table_at}
pub use Rattle.place_plan.specs.declared.plan.Plan.{Plan}
pub use Rattle.place_plan.specs.declared.search.Ask.{Ask}
pub use Rattle.place_plan.specs.declared.search.Hold.{Hold}
pub use Rattle.place_plan.specs.declared.search.Step.{Step}
pub use Rattle.place_plan.specs.declared.short.Need.{Need}
pub use Rattle.place_plan.specs.declared.short.Port.{Port}
pub use Rattle.place_plan.specs.declared.short.Resource.{Resource}
pub use Rattle.place_plan.specs.declared.short.Resource.TheVariants.{Lines, Pins, Ports, Tables}
pub use Rattle.place_plan.specs.declared.short.Short.{Short}
pub use Rattle.place_plan.specs.declared.short.Visit.{Visit}
pub use Rattle.place_plan.specs.declared.terminals.Terminal.{Terminal}
pub use Rattle.place_plan.specs.declared.tree.NetSide.{NetSide}
pub use Rattle.place_plan.specs.declared.tree.NetSide.TheVariants.{Child, Outside, Own}
pub use Rattle.place_plan.specs.Plans.{net_of}
pub use Rattle.place_plan.specs.Vocabulary.{AreAsksOf, AreGrouped, AreLists, AreNeeds, ArePicks, ArePlanNets, AreScanned, AreSeen, AreTaps}
pub use Rattle.place_plan.specs.Vocabulary.{AreThose, AreTouched, AreWires, AskWithin, CrossesAt, CrossesIn, HasTerminal, IsAmong}
pub use Rattle.place_plan.specs.Vocabulary.{IsAmongFirst, IsAnswer, IsAssignment, IsAt, IsClimb, IsDeadEnd, IsEnough, IsFreePin}
pub use Rattle.place_plan.specs.Vocabulary.{IsFreePinOf, IsFreePort, IsFreeTableOf, IsHeld, IsInOrder, IsInOrderOf, IsInside, IsLaid, IsNth}
pub use Rattle.place_plan.specs.Vocabulary.{IsPartial, IsPlan, IsRoom, IsRoomAt, IsScanning, IsShifting, IsShiftingFor, IsSized, IsSpread}
pub use Rattle.place_plan.specs.Vocabulary.{IsSpreadUp, IsTapFor, IsTrail, NodeIsShort, TouchesOf, Visits, all_terminals, at_child}
pub use Rattle.place_plan.specs.Vocabulary.{at_outside, at_own, drive_terminals, give_by, gives_of, is_shut, is_shut_cross, line_at}
pub use Rattle.place_plan.specs.Vocabulary.{list_at, net_in, nets_in, nth_of, number_of, owner_at, port_by, reads_at, reads_of, reads_to}
pub use Rattle.place_plan.specs.Vocabulary.{same_number, serves_any, serves_by, shows_of, step_at, terminal_for, visit_by, with_last}
