-- What the proofs here cite of the layers below, and of the specs.
pub use Rattle.std.proofs.Common.{All, IsSome, List, [], ap, arith, false, get_or, inl, inr, length, map, not, refl, subst, sym, take, true}
pub use Rattle.std.proofs.Common.{ℕ, ◌++◌, ◌+◌, ◌<◌, ◌∙◌, ◌∷◌, ◌≡◌, ◌≤◌, ◌⊎◌}
pub use Rattle.std.proofs.lemmas.Bool.{cases_Bool, cases_eq, cases_lt, eq-eqb, false≢true, ne_eqb, not-true, not_from_false, or_cases}
pub use Rattle.std.proofs.lemmas.List.{append-nil, ext_get_or, get_or-map, get_or-set_other, get_or-set_same, get_or_append_left}
pub use Rattle.std.proofs.lemmas.List.{get_or_default, get_or_past, get_or_read, length-append, length-map, length-replicate, length-set}
pub use Rattle.std.proofs.lemmas.List.{map-append, take_all, take_at}
pub use Rattle.std.proofs.lemmas.List.Elements.{All-contains, All-filter, filter_passes}
pub use Rattle.std.proofs.lemmas.List.FromFn.{get_or-map-range_with_len, length-range_with_len}
pub use Rattle.std.proofs.lemmas.Result.{IfOk-weaker, on_ok_weaker}
pub use Rattle.std.specs.Cmp.{nat_cmp_total, unsigned_tied}
pub use Rattle.std.specs.FinSet.{contains-remove, len-empty, len-insert, nat_cmp-IsAntisymmetric, same_set}
pub use Rattle.std.specs.List.{Contains, filter, range_with_len}
pub use Rattle.std.specs.Ordering.{eq_by_cmp, nat_cmp}
pub use Rattle.machine_shape.specs.declared.Cross.{Cross}
pub use Rattle.machine_shape.specs.declared.Shape.{Shape}
pub use Rattle.machine_shape.specs.declared.Table.{Table}
unfoldable pub use Rattle.machine_shape.specs.Vocabulary.{crosses_of, ends_of, pin_wire, pins_of, table_wire, tables_of, wires_of}
pub use Rattle.machine_meaning.specs.Vocabulary.{AreDefectsOf, Defects, IsFreeCross, IsFreeTable, IsFreeWire}
pub use Rattle.machine_meaning.proofs.JoinedLemmas.{Joined-sym, Joined-trans}
pub use Rattle.machine_config.specs.declared.Setting.{Setting}
pub use Rattle.machine_config.specs.Vocabulary.{Configuration, IsConfiguration, cleared, is_closed, setting_of, with_setting, with_ticks}
pub use Rattle.machine_defects.specs.Vocabulary.{DefectList, is_free_cross, is_free_table, is_free_wire, no_defects}
pub use Rattle.place_plan.specs.declared.short.Need.{Need}
pub use Rattle.place_plan.specs.declared.short.Port.{Port}
pub use Rattle.place_plan.specs.declared.short.Resource.{Resource}
pub use Rattle.place_plan.specs.declared.short.Short.{Short}
pub use Rattle.place_plan.specs.declared.short.Visit.{Visit}
pub use Rattle.place_plan.specs.Vocabulary.{AreHeld, AreThose, AreVisits, AreWires, Crosses, HasTerminal, IsAmongFirst, IsFreePin, IsMet}
pub use Rattle.place_plan.specs.Vocabulary.{IsRoom, IsTapOf, nth_of, same_number, visit_for}
pub use Rattle.place_plan.proofs.Those.{different_at, not_in_nil, same_place, those_none, those_push, those_same, those_unique}
pub use Rattle.machine_image.specs.Vocabulary.{ImageValue, IsFreeImage, IsImage, Uses, at_line, at_pin, at_tap, tables_on}
pub use Rattle.machine_image.proofs.FreeWires.{IsGood, IsOff, joined_too, keeps}
pub use Rattle.machine_image.proofs.Keyed.{listed, of_list}
pub use Rattle.machine_image.proofs.Touching.{inputs_within, outputs_within}
pub use Rattle.place_route.specs.Vocabulary.{AreWiresOf, Closes, IsJoined}
pub use Rattle.place_route.proofs.Joining.{closes_none, closes_one, closes_same, closes_then}
pub use Rattle.place_route.proofs.Ported.{crossed_within, same_port}
pub use Rattle.place_repair.specs.declared.plan.Plan.{Plan}
pub use Rattle.place_repair.specs.declared.seats.Moves.{Moves}
pub use Rattle.place_repair.specs.declared.seats.Seats.{Seats}
pub use Rattle.place_repair.specs.Groups.{AreLow, AreLowest, AreRootsOf, AreRootsTo, HasJoined, IsFound, IsUnited, parent_at}
pub use Rattle.place_repair.specs.Making.{AreApart, AreNetsOf, AreNumbers, AreNumbersTo, ArePinsApart, ArePlaces, AreSeated, AreSizedFor}
pub use Rattle.place_repair.specs.Making.{HasStayingWire, IsAdded, IsBroken, IsBrokenBy, IsBrokenHere, IsCross, IsCrossRest, IsDrawn}
pub use Rattle.place_repair.specs.Making.{IsEndOf, IsFirstPinTerminal, IsKeptCross, IsKeptCrossOf, IsMovedTo, IsOn, IsOnPin, IsPinOf, IsPut}
pub use Rattle.place_repair.specs.Making.{IsRedrawn, IsSeatPin, IsTable, IsTablePin, IsUnfreeCross, IsUnfreeCrossOf, IsUnfreeTable}
pub use Rattle.place_repair.specs.Making.{IsUnusedTo, IsWireRest, no_cross, no_table}
pub use Rattle.place_repair.specs.Marks.{AreMarks, HasMark, IsMarked, IsOfFirst, IsThis}
pub use Rattle.place_repair.specs.Nets.{HangTogether, HasWire, IsEnd, IsKept, IsLowest, as_line, as_tap}
pub use Rattle.place_repair.specs.Plans.{AreMoves, IsGoneTable, IsSparePin, IsSpareTable, is_gone_pin, need_of}
pub use Rattle.place_repair.specs.Repairs.{ArePinsAt, HasSameRows, IsKeptNets, IsOnLine, IsPortAt, IsRepair}
