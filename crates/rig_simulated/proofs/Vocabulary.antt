-- What the proofs here cite of the layers below, and of the specs.
pub use Rattle.std.proofs.Common.{All, Bool, Err, IfSome, IsSome, List, Option, Some, ap, arith, drop, false, get_or, is_some, length, map}
pub use Rattle.std.proofs.Common.{option_and_then, refl, rules, set, slice_index, subst, sym, take, true, unwrap_or, vec_len, ℕ, ◌++◌, ◌+◌}
pub use Rattle.std.proofs.Common.{◌-◌, ◌<◌, ◌^◌, ◌∙◌, ◌≡◌, ◌≤◌}
pub use Rattle.std.proofs.Math.Bool.{and-false, beq, or-false}
pub use Rattle.std.proofs.lemmas.Bool.{and_parts, cases_Bool, cases_eq, cases_lt, eq-eqb, eqb-true, false_from_ne_true, false≢true, le-leb}
pub use Rattle.std.proofs.lemmas.Bool.{leb-true, not-false, not-true, or_left}
pub use Rattle.std.proofs.lemmas.List.{get_or-map, get_or-set_other, get_or-set_same, get_or_append_left, get_or_default, get_or_past}
pub use Rattle.std.proofs.lemmas.List.{get_or_push, length-append, length-map, length-replicate, length-set, length_push, map-append}
pub use Rattle.std.proofs.lemmas.List.{take_all, take_more, take_more_set, with_items_is}
pub use Rattle.std.proofs.lemmas.List.Edits.{map_over_more}
pub use Rattle.std.proofs.lemmas.List.Elements.{All-get_or, All-map, All-more, All-push, All-weaker, Contains-append_left, Contains-push}
pub use Rattle.std.proofs.lemmas.List.FromFn.{fill_by_all, get_or-map-range_with_len, length-map-range_with_len}
pub use Rattle.std.proofs.lemmas.List.Sorted.{Contains-permutation, IsPartitionPoint-from_clause, IsPartitionedBy-leb}
pub use Rattle.std.proofs.lemmas.Option.{none-some, slice_get-get_or}
pub use Rattle.std.specs.List.{range_with_len}
pub use Rattle.std.specs.List.Sorted.{IsNonDecreasingBy, IsPermutation}
pub use Rattle.std.specs.Vec.{with_items}
pub use Rattle.base_bits.proofs.SetsLemmas.{same_bits}
pub use Rattle.machine_shape.specs.declared.Cross.{Cross}
pub use Rattle.machine_shape.specs.declared.Shape.{Shape}
pub use Rattle.machine_shape.specs.declared.Table.{Table}
pub use Rattle.machine_shape.specs.Vocabulary.{Ends, in_order, turned}
unfoldable pub use Rattle.machine_shape.specs.Vocabulary.{crosses_of, ends_of, most_text, pin_wire, pins_of, table_wire, tables_of}
unfoldable pub use Rattle.machine_shape.specs.Vocabulary.{wires_of}
pub use Rattle.machine_shape.proofs.HighLimits.{high_limits}
pub use Rattle.machine_meaning.specs.Vocabulary.{Faults, Joined, Linked, Net, Outputs, Pins, here, net_of, stuck_cross, stuck_wire, then}
pub use Rattle.machine_config.specs.declared.Setting.{Setting}
pub use Rattle.machine_config.specs.Vocabulary.{Configuration, IsConfiguration, IsRun, circuit_of, is_closed, number_of, set_of, setting_of}
pub use Rattle.rig.specs.Rig.{Exchange, GoesOnBy, IsNoText, KeepLengths, Machine, Past, Session, drives_of, readings_of}
pub use Rattle.rig_simulated.specs.declared.board.Board.{Board}
pub use Rattle.rig_simulated.specs.declared.classes.ClassNode.{ClassNode}
pub use Rattle.rig_simulated.specs.declared.classes.Closed.{Closed}
pub use Rattle.rig_simulated.specs.declared.events.Events.{Events}
pub use Rattle.rig_simulated.specs.declared.events.Flip.{Flip}
pub use Rattle.rig_simulated.specs.declared.gates.Gate.{Gate}
pub use Rattle.rig_simulated.specs.declared.queue.Queue.{Queue}
pub use Rattle.rig_simulated.specs.declared.readers.Reader.{Reader}
pub use Rattle.rig_simulated.specs.Boards.{AreFitting, ArePinsOf, HasPins, IsLoaded}
pub use Rattle.rig_simulated.specs.Building.{AreClosedBy, AreOpenable, HasClosed, StaysClosed, base_most, bridged_net, closed_net, cross_of}
pub use Rattle.rig_simulated.specs.Building.{is_among, stuck_net}
pub use Rattle.rig_simulated.specs.Chains.{AreChained, AreWithin, IsLast}
pub use Rattle.rig_simulated.specs.Classes.{AreClasses, AreKnots, AreTied, HasLink, HasRoots, HaveSameLinks, HoldsAt, IsHeldAs, IsHung}
pub use Rattle.rig_simulated.specs.Classes.{IsOpenedBy, IsTieOf, IsWithinKnots, knot_at}
pub use Rattle.rig_simulated.specs.Cycles.{AreDriven, HasCycled, HasTicked, HaveTicked, IsEdge, IsTick, IsWired, not_yet, once_more}
pub use Rattle.rig_simulated.specs.Events.{AreAlike, AreEvents, AreFlips, AreStill, HaveFlips, InputsKept, IsSound, IsStill, PutFlips}
pub use Rattle.rig_simulated.specs.Gates.{AreGates, AreMarkedToo, AreOutputs, Fits, IsClear, IsDrivenBy, IsGate, IsOutputOf, IsPinOf}
pub use Rattle.rig_simulated.specs.Gates.{IsPulledBy, Stands, address_by, cell_by, clocked, is_low, level_at, level_of, ticked}
pub use Rattle.rig_simulated.specs.Pasts.{AreGiven, HasCome, HasComeIfKept, KeepsPast, SkipsTicks, given_by}
pub use Rattle.rig_simulated.specs.Pulls.{AreCounted, HasGiven, giving, pulls_to}
pub use Rattle.rig_simulated.specs.Queues.{IsDue, IsQueue, KeepsMarks, is_marked}
pub use Rattle.rig_simulated.specs.Readers.{AreListed, AreReaders, AreStarts, HaveGrown, StartsAt, reader_at}
pub use Rattle.rig_simulated.specs.Settling.{AreAtOutputs, AreTwins, IsLatched, IsRankedOrLatched, Settles}
pub use Rattle.rig_simulated.specs.States.{GoesOnByFrom, GoesOnFrom, HasGoneOn, HasRoomFrom, SimState}
pub use Rattle.rig_simulated.specs.Stored.{config_in, cycles_in, setting_in}
pub use Rattle.rig_simulated.specs.Tracked.{AreAlikeBelow, AreShown, IsTracked, level_by}
pub use Rattle.rig_simulated.specs.Tracks.{GivesCycle, HasRun}
