-- What the proofs here cite of the layers below, and of the specs.
pub use Rattle.std.proofs.Common.{All, Some, [], ap, arith, false, get_or, is_some, length, map, refl, replicate, rules, slice_get}
pub use Rattle.std.proofs.Common.{slice_index, slice_index_or, subst, sym, true, ℕ, ◌*◌, ◌+◌, ◌-◌, ◌<◌, ◌∙◌, ◌∷◌, ◌≡◌, ◌≢◌, ◌≤◌}
pub use Rattle.std.proofs.Math.ListN.{set}
pub use Rattle.std.proofs.lemmas.Bool.{cases_eq, cases_lt, false≢true}
pub use Rattle.std.proofs.lemmas.List.{get_or-set_other, get_or-set_same, get_or_past, length-append, length-map, length-replicate}
pub use Rattle.std.proofs.lemmas.List.{length-set}
pub use Rattle.std.proofs.lemmas.List.Sums.{count_by-le-length, count_by_more_no, count_by_more_yes, sum_by-cons}
pub use Rattle.std.proofs.lemmas.Map.Views.{any-filter_same, list_any-from_Contains}
pub use Rattle.std.proofs.lemmas.Option.{get_or_from_slice_get, slice_get-get_or, slice_get_within}
pub use Rattle.std.specs.List.{AllByRecursion, count_by, filter, range_with_len}
unfoldable pub use Rattle.std.specs.List.{IsDistinct}
pub use Rattle.std.specs.Ordering.{nat_cmp}
pub use Rattle.base_bits.specs.Numbers.{has_number, size_of}
pub use Rattle.machine_shape.specs.declared.Cross.{Cross}
pub use Rattle.machine_shape.specs.declared.Shape.{Shape}
pub use Rattle.machine_shape.specs.declared.Table.{Table}
pub use Rattle.machine_shape.specs.declared.Wire.{Wire}
pub use Rattle.machine_shape.specs.Vocabulary.{Ends, HasCrosses, HasSites, IsNumbered, in_order, itself, turned}
unfoldable pub use Rattle.machine_shape.specs.Vocabulary.{crosses_of, ends_of, node_of, nodes_of, parent_of, pin_wire, table_wire, wires_of}
pub use Rattle.machine_config.specs.Vocabulary.{Configuration, is_closed, setting_of}
pub use Rattle.machine_image.specs.Vocabulary.{CrossPart, ImageValue, IsImage, IsInvolved, IsWideEnough, Part, TablePart, Uses, WirePart}
pub use Rattle.machine_image.specs.Vocabulary.{at_line, at_pin, at_table, at_tap, by_cross, by_wire, drive_of}
pub use Rattle.machine_image.proofs.Keyed.{of_set, to_set}
pub use Rattle.diag_evidence.specs.Vocabulary.{HoldsFor, IsMore, Kept}
unfoldable pub use Rattle.diag_evidence.specs.Vocabulary.{keeps_cell, keeps_cross, keeps_wire}
pub use Rattle.diag_evidence.proofs.Keeping.{advances_then, holds_untried}
pub use Rattle.diag_known.specs.declared.field.Field.{Field}
pub use Rattle.diag_known.specs.declared.verified_wire.VerifiedWire.{VerifiedWire}
pub use Rattle.diag_known.specs.Vocabulary.{ClosedIf, Gets, HasWire, IsClosed, IsFieldOf, IsKeptCrossOf, IsKnown, IsWireBefore, KnownWires}
pub use Rattle.diag_known.proofs.Getting.{at_index, below_or, marked_from, marked_here, marked_still, marked_within, none_marked}
pub use Rattle.diag_known.proofs.Later.{all_still, known_later, known_none}
pub use Rattle.diag_known.proofs.Places.{get_pushed, some_same}
pub use Rattle.diag_known.proofs.Settling.{if_ok_so}
pub use Rattle.diag_growth.specs.Tables.{SeatedAreKept, fresh_tables, keeps_table}
pub use Rattle.diag_growth.proofs.Decided.{known_or}
pub use Rattle.diag_growth.proofs.Explained.{held}
pub use Rattle.diag_check.specs.declared.picks.Frame.{Frame}
pub use Rattle.diag_check.specs.declared.picks.Picks.{Picks}
pub use Rattle.diag_check.specs.declared.picks.Side.TheVariants.{Lines, Own}
pub use Rattle.diag_check.specs.Fields.{IsBetween, IsCrossBefore, IsFewFor, IsHungOn, IsJointOf, IsOnLines, IsOnTaps, IsPickOf, OfMarked}
pub use Rattle.diag_check.specs.Looks.{AreRoutesKnown, AreSeated, KeepsTableOf, TakesAround, TakesAtMost}
pub use Rattle.diag_check.specs.Marks.{Adds, IsAmongFirst, IsEndAmong, IsNearBefore, IsNearCross, IsNodeAmong, IsPinAmong, IsPinOfTable}
pub use Rattle.diag_check.specs.Marks.{IsTablePinAmong, Rises}
pub use Rattle.diag_check.specs.Near.{AreSurroundings, IsOfNode}
pub use Rattle.diag_check.specs.Picked.{AreOfSide, ArePickedUpTo, HasFirstTwo, IsAmong, IsOfSide, IsPickedAt, side_wire, width_of}
pub use Rattle.diag_check.specs.Skeleton.{AreMet, HasSkeleton, IsMet, IsOwn, own_pin, own_port}
pub use Rattle.diag_check.specs.Soundly.{IsSoundNear, IsUnharmed, KeepsParts, StandsBySurroundings, StandsNear}
pub use Rattle.diag_check.specs.Used.{AreInvolved, AreUsed}
