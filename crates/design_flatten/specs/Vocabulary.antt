-- What the crates above, and the proofs here, speak of.
pub use Rattle.design_flatten.specs.Lines.{Control, CoverPart, GivenControl, HaveRightRows, InputPart, LatchPart, Line, NamedControl}
pub use Rattle.design_flatten.specs.Lines.{OutputPart, Pair, Part, PiecesFit, RowsFit, UsePart, input_line, is_port, is_use, lines_of_model}
pub use Rattle.design_flatten.specs.Lines.{next_place, no_model, number_of_line, ordered_lines, output_line, pair_of, piece_line}
pub use Rattle.design_flatten.specs.Lines.{with_place, with_places}
pub use Rattle.design_flatten.specs.Substitution.{IsSubstituted, ModelPlace, at_first, becomes, control_becomes, first_model, given}
pub use Rattle.design_flatten.specs.Substitution.{is_left, lines_at, model_named, pair_through, part_through, replace, replace_first}
pub use Rattle.design_flatten.specs.Substitution.{through, without_ports}
unfoldable pub use Rattle.design_flatten.specs.Substitution.{after}
pub use Rattle.design_flatten.specs.Signals.{is_over, row_size, same_signal, signal_number, signals_of, size_in, size_of, with_signal}
pub use Rattle.design_flatten.specs.Signals.{with_signals, words_in, words_on}
pub use Rattle.design_flatten.specs.Uses.{IsRecursive, IsRightlyGiven, KeepsRules, LeadsToModel, Use, formals_of, here, input_names}
pub use Rattle.design_flatten.specs.Uses.{is_among, no_use, onward, port_names, use_at, use_on, uses_in, uses_of}
pub use Rattle.design_flatten.specs.Netlists.{AreOneControl, Clocked, IsNetlistOf, IsReadFrom, IsWithin, Origin, control_at, control_is}
pub use Rattle.design_flatten.specs.Netlists.{control_on, controls_of, cover_on, first_use, input_on, latch_on, no_control, origin_of}
pub use Rattle.design_flatten.specs.Netlists.{output_on, printed, printed_way}
pub use Rattle.design_flatten.specs.UseFaults.{IsFirstUse, IsUnknown, IsWronglyGiven, first_missing, first_wrong, formal_fault}
pub use Rattle.design_flatten.specs.UseFaults.{wrong_formal}
pub use Rattle.design_flatten.specs.Words.{IsFirstDoubled, IsFirstUndriven, IsUndrivenIn, covers_in, drive_on, drives_in, read_on, reads_in}
pub use Rattle.design_flatten.specs.Faults.{IsClean, IsFirstOther, IsModelsFault, IsOtherControl, IsRefusalOfModels, IsTooMuch, name_in}
pub use Rattle.design_flatten.specs.InOrder.{in_order, put_in_order}
pub use Rattle.design_flatten.specs.Ordered.{line_in, part_in}
pub use Rattle.design_flatten.specs.Given.{place_of}
pub use Rattle.design_flatten.specs.Placed.{control_of, part_of, placed_line}
pub use Rattle.design_flatten.specs.Refusals.{IsOver, IsPast}
pub use Rattle.design_flatten.specs.Drives.{AreDrives, IsFirstWord, doubled_with, first_at, first_with, is_nearer, nearest, places_of}
pub use Rattle.design_flatten.specs.Sinks.{IsOverWith, IsPut, IsSink}
pub use Rattle.design_flatten.specs.Lists.{AreLists}
pub use Rattle.design_flatten.specs.NameSets.{with_name, with_names}
pub use Rattle.design_flatten.specs.UseLines.{IsCatalog, IsFirstListed, IsKnown, formals_in, known_of, listed, names_of, number_at, shown}
pub use Rattle.design_flatten.specs.UseLines.{use_in}
pub use Rattle.design_flatten.specs.Links.{AreBare, AreLinked, HaveNames, group_at, with_input}
pub use Rattle.design_flatten.specs.Needs.{is_needed, lean_line, lean_model, lean_models, lean_part, lean_piece, names_on, names_within}
pub use Rattle.design_flatten.specs.Needs.{needed_defs}
pub use Rattle.design_flatten.specs.Marks.{AreRightMarks, HasTaken}
pub use Rattle.design_flatten.specs.Bodies.{AreBodies, IsBodyAdded, IsBodyAt, IsBodyOf, body_at, lean_in, with_pairs}
pub use Rattle.design_flatten.specs.Frames.{AreFrames, IsOverIn, IsPlaced, left_from, left_in, left_of, use_line, way_to}
pub use Rattle.design_flatten.specs.Origins.{AreAllOrigins, AreOrigins, AreWays, IsOrigin, IsRefused, IsSubstitution, lines_of, replaced_in}
pub use Rattle.design_flatten.specs.Origins.{shared_as, step_to}
pub use Rattle.design_flatten.specs.Clocks.{AreClocks, AreFirstClocks, IsControlAnswer, IsFirstClock, IsFirstUnlike, IsUnlike, at_name}
pub use Rattle.design_flatten.specs.Clocks.{clocked_in, control_in, earlier_clock, nearer_line, other_with, place_in, same_control}
pub use Rattle.design_flatten.specs.Readings.{IsReading}
