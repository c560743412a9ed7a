-- What the proofs here cite of the layers below, and of the specs.
pub use Rattle.std.proofs.Common.{All, List, Some, [], ap, arith, get_or, inl, inr, length, refl, rules, slice_get, slice_set, subst, sym}
pub use Rattle.std.proofs.Common.{take, true, ℕ, ◌*◌, ◌+◌, ◌-◌, ◌/◌, ◌<◌, ◌∙◌, ◌≡◌, ◌≢◌, ◌≤◌}
pub use Rattle.std.proofs.lemmas.Bool.{cases_eq, false≢true, or_cases, or_left, or_right}
pub use Rattle.std.proofs.lemmas.Bool.Decides.{nat_tests}
pub use Rattle.std.proofs.lemmas.List.{get_or-set_other, get_or-set_same, length-replicate, length_push, nil_from_length}
pub use Rattle.std.proofs.lemmas.Option.{slice_get-get_or, slice_get_read, slice_get_within}
pub use Rattle.std.proofs.lemmas.Result.{IfOk-weaker}
pub use Rattle.std.specs.List.{count_by, range_with_len}
pub use Rattle.base_bits.specs.Numbers.{has_number, size_of}
pub use Rattle.machine_shape.specs.declared.Cross.{Cross}
pub use Rattle.machine_shape.specs.declared.Shape.{Shape}
pub use Rattle.machine_shape.specs.declared.Table.{Table}
pub use Rattle.machine_shape.specs.declared.Wire.{Wire}
pub use Rattle.machine_shape.specs.Vocabulary.{Ends, IsNumbered, Line, Pin, Port, TablePin, in_order, is_pin, turned}
unfoldable pub use Rattle.machine_shape.specs.Vocabulary.{IsLine, IsPort, crosses_of, ends_of, hextant_of, line_at, lines_of, own_ports_of}
unfoldable pub use Rattle.machine_shape.specs.Vocabulary.{pin_wire, pins_of, port_at, table_wire, tables_of, wires_of}
pub use Rattle.machine_meaning.specs.Vocabulary.{Faults, IsClear, IsOutside, IsRightTable, IsSeated, Meets, Pins, Shorted, StandsBy}
pub use Rattle.machine_meaning.specs.Vocabulary.{StandsWithout, wrong_cell}
pub use Rattle.machine_meaning.proofs.JoinedLemmas.{Ends-swap}
pub use Rattle.machine_config.specs.Vocabulary.{AreGroups, Configuration, IsDrivenAlone, IsWithin, among, is_closed}
pub use Rattle.rig.specs.Rig.{Explains, ForEach, RigState}
pub use Rattle.diag_tests.specs.Vocabulary.{Extends, IsCellConfig, IsLoopConfig, IsRoute, Walk, cross_numbers}
pub use Rattle.diag_evidence.specs.Vocabulary.{Advances, CanSettle, HasSettled, HoldsFor, HoldsUntried, IsMore, KeepsTrial, Kept, untried}
unfoldable pub use Rattle.diag_evidence.specs.Vocabulary.{is_apart, keeps_cell, keeps_cross, keeps_pair, keeps_register, keeps_wire}
pub use Rattle.diag_evidence.proofs.Keeping.{advances_itself, advances_then, begun_apart, holds_earlier, holds_untried, more_then, of_told}
pub use Rattle.diag_evidence.proofs.Keeping.{trial_by_gain, trial_itself, trial_pair, untried_crosses, untried_later, untried_two}
pub use Rattle.diag_evidence.proofs.Keeping.{untried_wires}
pub use Rattle.diag_evidence.proofs.KeptLemmas.{more_itself}
pub use Rattle.diag_evidence.proofs.Lists.{grown, laid_cases, or_first, or_third, route_passes}
pub use Rattle.diag_known.specs.declared.field.Field.{Field}
pub use Rattle.diag_known.specs.declared.marks.Marks.{Marks}
pub use Rattle.diag_known.specs.declared.offers.Offer.{Offer}
pub use Rattle.diag_known.specs.declared.verified_wire.Support.{Support}
pub use Rattle.diag_known.specs.declared.verified_wire.VerifiedWire.{VerifiedWire}
pub use Rattle.diag_known.specs.Vocabulary.{AreLinksOf, AreWays, HasWire, InSet, InSome, IsAt, IsBad, IsBefore, IsFaulty}
pub use Rattle.diag_known.specs.Vocabulary.{IsFieldOf, IsInField, IsKeptCrossOf, IsKnown, IsLinkTo, IsLost, IsOn, IsSecondMark, KnownWires, KnowsAll}
pub use Rattle.diag_known.specs.Vocabulary.{barred, how_many, lost, on_pin}
pub use Rattle.diag_known.proofs.Adding.{InFirst, all_numbers}
pub use Rattle.diag_known.proofs.Apart.{good_of, known_apart}
pub use Rattle.diag_known.proofs.Counting.{many_all, many_less, many_more, many_so, none_has, number_within, set_has, set_only, set_stays}
pub use Rattle.diag_known.proofs.Getting.{at_index}
pub use Rattle.diag_known.proofs.Later.{all_still, known_later, learnt, stands_later, ways_later}
pub use Rattle.diag_known.proofs.Losing.{kept_later, lost_later, lost_turned, tried_later}
pub use Rattle.diag_known.proofs.Marking.{by_three, few_barred, few_between, few_none, few_then, first_of, second_of, spends_barred}
pub use Rattle.diag_known.proofs.Marking.{spends_between, spends_none, spends_then, takes_three, takes_two, third_of}
pub use Rattle.diag_known.proofs.Offering.{few_own, spends_on_none, spends_on_then, spends_own}
pub use Rattle.diag_known.proofs.Places.{at_later, at_one, at_within, before_has, get_before, get_last, get_pushed, has_later, one_more}
pub use Rattle.diag_known.proofs.Places.{one_place, some_same}
pub use Rattle.diag_known.proofs.Seconds.{lost_all, lost_next, lost_one, offer_feet, offer_stands, offer_still}
pub use Rattle.diag_known.proofs.Settling.{ends_same, if_ok_so, lost_faulty, marks_barred, marks_between, marks_later, marks_still, on_both}
pub use Rattle.diag_known.proofs.Settling.{on_ok_so, over_barred, over_between, over_later, second_mark_by}
pub use Rattle.diag_growth.specs.declared.choices.Arms.{Arms}
pub use Rattle.diag_growth.specs.declared.look.Look.{Look}
pub use Rattle.diag_growth.specs.declared.seat.Arm.{Arm}
pub use Rattle.diag_growth.specs.declared.seat.Seat.{Seat}
pub use Rattle.diag_growth.specs.declared.seats.Out.{Out}
pub use Rattle.diag_growth.specs.Choices.{AreInputArms, AreOuts, IsTold}
pub use Rattle.diag_growth.specs.Grown.{IsGrown, IsLearnt, IsOneMore}
pub use Rattle.diag_growth.specs.Looks.{AreAllMarks, AreEarlierUpTo, AreTried, Grows, IsOfField, IsLooked, StayBarred}
pub use Rattle.diag_growth.specs.Partings.{AreLeft, IsApartBeside, IsListed, IsParted, IsParting, LeavesAt}
pub use Rattle.diag_growth.specs.Seating.{AreAllWithout, AreArmsTo, IsArmTo, IsFarPort, IsFreeArm, IsMeeting, IsPlace, IsPlaceAt}
pub use Rattle.diag_growth.specs.Seating.{IsPlaceFor, IsWithout, PutsOutside}
pub use Rattle.diag_growth.specs.Seats.{AddsOnlyTableFacts, IsKeptBetween, IsSeat, KeepsTable, TableIf, far_wires, near_wires}
pub use Rattle.diag_growth.specs.Tables.{SeatedAreKept, SeatedIsKept, TakesForTable, fresh_tables, keeps_table}
pub use Rattle.diag_growth.specs.Ties.{AreSeatTies, IsSeatTie, bit_of, halves, on_arm, to_output}
