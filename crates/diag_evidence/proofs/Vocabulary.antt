-- What the proofs here cite of the layers below, and of the specs.
pub use Rattle.std.proofs.Common.{All, Bool, Err, IfSome, List, None, Ok, OnOk, Option, Result, Some, ap, arith, false, filter, get_or}
pub use Rattle.std.proofs.Common.{is_ok, is_some, length, map, nat_lt, not, refl, set, subst, sym, take, true, unwrap_or, ℕ, ◌&&◌, ◌++◌}
pub use Rattle.std.proofs.Common.{◌+◌, ◌<◌, ◌==◌, ◌||◌, ◌∙◌, ◌∷◌, ◌≡◌, ◌≢◌, ◌≤◌}
pub use Rattle.std.proofs.Math.Nat.{le-max_left, le-max_right, min-eq_left, min-eq_right, mul-add}
pub use Rattle.std.proofs.lemmas.Bool.{and_parts, cases_lt, false≢true, or_cases, or_left, or_parts, or_right}
pub use Rattle.std.proofs.lemmas.Bool.Decides.{nat_tests}
pub use Rattle.std.proofs.lemmas.List.{flat_map_more, get_or-map, get_or-set_other, get_or-set_same, get_or_default, get_or_past}
pub use Rattle.std.proofs.lemmas.List.{length-map, length-replicate, length-set, map-append, take_all, take_more}
pub use Rattle.std.proofs.lemmas.List.Elements.{All-append, All-filter, All-map, filter-append}
pub use Rattle.std.proofs.lemmas.List.Folds.{list_any-append, list_any_at, list_any_more}
pub use Rattle.std.proofs.lemmas.Option.{gets, none-some, slice_get-get_or}
pub use Rattle.std.specs.FinSet.{contains-empty}
pub use Rattle.std.specs.Int.{bit_at}
pub use Rattle.std.specs.List.{AllByRecursion, list_all, list_any, range_with_len}
unfoldable pub use Rattle.std.specs.List.{IsDistinct}
pub use Rattle.std.specs.Option.{option_map_or}
pub use Rattle.std.specs.Ordering.{nat_cmp}
pub use Rattle.base_bits.specs.Numbers.{has_number}
pub use Rattle.base_bits.proofs.SetsLemmas.{same_bits}
pub use Rattle.machine_shape.specs.declared.Cross.{Cross}
pub use Rattle.machine_shape.specs.declared.Shape.{Shape}
pub use Rattle.machine_shape.specs.declared.Table.{Table}
pub use Rattle.machine_shape.specs.Vocabulary.{Ends}
unfoldable pub use Rattle.machine_shape.specs.Vocabulary.{crosses_of, ends_of, pin_wire, pins_of, table_wire, tables_of, wires_of}
pub use Rattle.machine_meaning.specs.Vocabulary.{Faults, IsAlone, IsClear, Pins, Shorted, here, stuck_cross, stuck_register, wrong_cell}
pub use Rattle.machine_meaning.proofs.JoinedLemmas.{Ends-swap, Joined-Shorted, Joined-sym, Joined-trans}
pub use Rattle.machine_config.specs.declared.Setting.{Setting}
pub use Rattle.machine_config.specs.Vocabulary.{Configuration, IsRun, LeadsTo, OpensFarFrom, Roomy, among, cell_of, circuit_of, cleared}
pub use Rattle.machine_config.specs.Vocabulary.{ends, goes, is_closed, number_of, with_closed, with_open, with_setting}
pub use Rattle.machine_config.proofs.Changes.{closed_again, closed_already, is_closed-open}
pub use Rattle.machine_config.proofs.Grouped.{LeadsTo-below, LeadsTo-end, LeadsTo-push, LeadsTo-start, LeadsTo-then, LeadsTo-within}
pub use Rattle.machine_config.proofs.Grouped.{groups_turned, left_apart, left_unstuck}
pub use Rattle.machine_config.proofs.Loops.{closed_before, loop_toggles}
pub use Rattle.machine_config.proofs.Passing.{apart_passes, driven_in, high_value, left_low, low_value, quiet_load, reads_high, reads_low}
pub use Rattle.machine_config.proofs.Passing.{right_high, swing_passes}
pub use Rattle.machine_config.proofs.Readings.{apart_separates, conducting, pin_value, reads_apart, swing_clears}
pub use Rattle.machine_config.proofs.Runs.{Cycles-length, Runs-unique}
pub use Rattle.machine_config.proofs.Toggles.{cell_shows, closed_cross_shows, cross_toggled, register_shows}
pub use Rattle.rig.specs.Rig.{Asked, Explains, Machine, Narrows, Past, RigState, Tells, log_of}
unfoldable pub use Rattle.rig.specs.Rig.{cycles_made}
pub use Rattle.diag_tests.specs.Vocabulary.{Closes, IsCellConfig, IsRoute, Walk, cell_setting, cross_numbers, other_end}
pub use Rattle.diag_tests.proofs.Closings.{among_at, closes_next}
pub use Rattle.diag_evidence.specs.declared.hangs.WireTest.{WireTest}
pub use Rattle.diag_evidence.specs.declared.leads.Lead.{Lead}
pub use Rattle.diag_evidence.specs.Sheets.{IsSheet}
pub use Rattle.diag_evidence.specs.Vocabulary.{AreAddressesOf, AreOpposite, AreSights, CanLay, CellPasses, FewCycles, Foot, Gains, HangsOn}
pub use Rattle.diag_evidence.specs.Vocabulary.{HasAddress, HasCycled, HasFew, HasLearnt, HaveWidth, HoldsFor, IsFoot, IsForest, IsLeadOf}
pub use Rattle.diag_evidence.specs.Vocabulary.{IsOfTree, IsTableConfig, Kept, KnowsForest, Reads, ReadsEach, ReadsOnce, RegisterPasses}
pub use Rattle.diag_evidence.specs.Vocabulary.{Sights, SwitchesOn, TakesFewCycles, Trees, crosses_along, crosses_of_leads, differ, ends_on}
pub use Rattle.diag_evidence.specs.Vocabulary.{feet_crosses, hangs_swinging, held_up_at, is_hung, is_laid, is_one_of, is_only_unkept}
pub use Rattle.diag_evidence.specs.Vocabulary.{is_shown, joins, joins_alone, led_over, look_drives, most_cycles, none_driven, nothing}
pub use Rattle.diag_evidence.specs.Vocabulary.{one_cell, one_cross, one_driven, one_register, others_part_from, output_pin, over_of, overs}
pub use Rattle.diag_evidence.specs.Vocabulary.{parts, parts_from_hung, parts_from_others, pin_at, pin_of, pin_p, pin_q, read_under}
pub use Rattle.diag_evidence.specs.Vocabulary.{reads_somewhere, right_parts, row_over, seen_in, shows_unclear, shows_unfit, some_answers}
pub use Rattle.diag_evidence.specs.Vocabulary.{swings, these_crosses, these_wires, turned, wires_over, with_laid}
unfoldable pub use Rattle.diag_evidence.specs.Vocabulary.{is_right_before, keeps_cross}
