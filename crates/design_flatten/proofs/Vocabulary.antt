-- What the proofs here cite of the layers below, and of the specs.
pub use Rattle.std.proofs.Common.{IfErr, IfOk, IsSome, List, None, OnOk, Option, Some, [], ap, arith, cond, drop, eqb, false, fold, get_or}
pub use Rattle.std.proofs.Common.{inl, inr, is_some, length, map, refl, rules, set, subst, sym, take, vec_len, ℕ, ◌*◌, ◌++◌, ◌+◌, ◌-◌, ◌<◌}
pub use Rattle.std.proofs.Common.{◌∙◌, ◌∷◌, ◌≡◌, ◌≤◌, ◌⊎◌}
pub use Rattle.std.proofs.Math.Bool.{or-false, or-true, or_assoc, or_comm}
pub use Rattle.std.proofs.Math.Seq.{drop-cons, get_or-append_seam}
pub use Rattle.std.proofs.lemmas.Bool.{and_from, cases_Bool, cases_eq, cases_lt, cond-false, cond-true, eq-eqb, eqb-false, eqb-true, le-ltb}
pub use Rattle.std.proofs.lemmas.Bool.{ltb-false, not-false, or_cases, or_parts, true_from_ne_false}
pub use Rattle.std.proofs.lemmas.List.{append-nil, get_or-map, get_or-set_other, get_or_append_left, length-map, length-take-le}
pub use Rattle.std.proofs.lemmas.List.{length_push, map-append, map_push, take_more}
pub use Rattle.std.proofs.lemmas.List.Concat.{flat_map-append}
pub use Rattle.std.proofs.lemmas.List.Elements.{All-append, All-cons, All-head, All-nil, All-tail}
pub use Rattle.std.proofs.lemmas.List.Folds.{flat_map-map, list_any-append}
pub use Rattle.std.proofs.lemmas.List.Sums.{fold-append, fold_more, sum_by-append, sum_by-cons}
pub use Rattle.std.proofs.lemmas.Result.{err_from_is_err_and}
pub use Rattle.std.proofs.lemmas.Slice.Eq.{bytes_eq-Decides}
pub use Rattle.std.specs.Borrow.{Bor}
pub use Rattle.std.specs.List.{All, AllPairs, Contains, filter, flat_map, list_any, position_or_len, slice_get}
pub use Rattle.std.specs.Option.{option_copied, option_or, unwrap_or}
pub use Rattle.std.specs.Str.{bytes_eq}
pub use Rattle.design_netlist.specs.declared.netlist_data.Cover.{Cover}
pub use Rattle.design_netlist.specs.declared.netlist_data.LatchDef.{LatchDef}
pub use Rattle.design_netlist.specs.declared.netlist_data.NetlistData.{NetlistData}
pub use Rattle.design_netlist.specs.declared.netlist_data.PortDef.{PortDef}
pub use Rattle.design_netlist.specs.Vocabulary.{AreGroups, IsBefore, IsDoubledIn, IsFirst, cover_at, is_sooner, signal_at, sooner, texts_of}
pub use Rattle.design_netlist.specs.Vocabulary.{whole, with_text, word}
pub use Rattle.design_netlist.proofs.OrderLemmas.{first_all, first_more, first_same, not_itself}
pub use Rattle.design_flatten.specs.declared.bodies.Body.{Body}
pub use Rattle.design_flatten.specs.declared.bodies.Lean.{Lean}
pub use Rattle.design_flatten.specs.declared.drives.Driver.{Driver}
pub use Rattle.design_flatten.specs.declared.model.Model.{Model}
pub use Rattle.design_flatten.specs.declared.model.PairDef.{PairDef}
pub use Rattle.design_flatten.specs.declared.model.Piece.{Piece}
pub use Rattle.design_flatten.specs.declared.model.Signal.{Signal}
pub use Rattle.design_flatten.specs.declared.needs.Marked.{Marked}
pub use Rattle.design_flatten.specs.declared.placed.Placed.{Placed}
pub use Rattle.design_flatten.specs.declared.refusal.Refusal.{Refusal}
pub use Rattle.design_flatten.specs.declared.refusal.Refusal.TheVariants.{Limit, Memory}
pub use Rattle.design_flatten.specs.declared.work.Substituted.{Substituted}
pub use Rattle.design_flatten.specs.NameSets.{number_in}
pub use Rattle.design_flatten.specs.UseLines.{looked_up}
pub use Rattle.design_flatten.specs.Vocabulary.{AreAllOrigins, AreBodies, AreFirstClocks, AreLinked, AreLists, AreOrigins, AreRightMarks}
pub use Rattle.design_flatten.specs.Vocabulary.{AreWays, HasTaken, HaveNames, IsBodyAdded, IsBodyAt, IsBodyOf, IsCatalog, IsControlAnswer}
pub use Rattle.design_flatten.specs.Vocabulary.{IsFirstUse, IsFirstWord, IsKnown, IsNetlistOf, IsOrigin, IsOverWith, IsPut, IsReading}
pub use Rattle.design_flatten.specs.Vocabulary.{IsRefused, IsSink, IsSubstitution, IsUndrivenIn, IsUnknown, IsWronglyGiven, Line, Use}
pub use Rattle.design_flatten.specs.Vocabulary.{at_first, at_name, becomes, body_at, clocked_in, control_is, control_of, controls_of}
pub use Rattle.design_flatten.specs.Vocabulary.{doubled_with, drives_in, first_at, first_missing, first_model, first_with, first_wrong}
pub use Rattle.design_flatten.specs.Vocabulary.{formal_fault, formals_in, given, group_at, in_order, input_line, is_among, is_needed}
pub use Rattle.design_flatten.specs.Vocabulary.{known_of, lean_in, lean_line, lean_models, left_from, left_in, line_in, lines_at, lines_of}
pub use Rattle.design_flatten.specs.Vocabulary.{listed, model_named, name_in, names_of, names_on, names_within, nearest, no_model}
pub use Rattle.design_flatten.specs.Vocabulary.{number_at, number_of_line, ordered_lines, other_with, output_line, pair_of, pair_through}
pub use Rattle.design_flatten.specs.Vocabulary.{piece_line, place_in, place_of, placed_line, places_of, printed, read_on, replaced_in}
pub use Rattle.design_flatten.specs.Vocabulary.{row_size, same_signal, shared_as, signal_number, signals_of, step_to, through, use_in}
pub use Rattle.design_flatten.specs.Vocabulary.{use_on, uses_in, uses_of, with_input, with_name, with_names, with_places, with_signals}
