-- What the proofs here cite of the layers below, and of the specs.
pub use Rattle.std.proofs.Common.{All, Bool, List, None, Option, Some, [], ap, arith, false, flat_map, get_or, inl, inr, length, map, not}
pub use Rattle.std.proofs.Common.{refl, slice_index_or, subst, sym, take, true, ℕ, ◌&&◌, ◌*◌, ◌++◌, ◌+◌, ◌<◌, ◌==◌, ◌∙◌, ◌∷◌, ◌≡◌, ◌≤◌, ◌⊎◌}
pub use Rattle.std.proofs.lemmas.Bool.{and_parts, false≢true, or_cases, or_left, or_parts, or_right}
pub use Rattle.std.proofs.lemmas.Bool.Decides.{nat_tests}
pub use Rattle.std.proofs.lemmas.List.{append-nil, get_or-replicate, get_or-set_other, get_or_past, length-map, length-replicate}
pub use Rattle.std.proofs.lemmas.List.{length-set, map-append, take_all, take_more}
pub use Rattle.std.proofs.lemmas.List.Elements.{All-push, filter-append}
pub use Rattle.std.proofs.lemmas.List.Folds.{list_any-append}
pub use Rattle.std.proofs.lemmas.Option.{gets}
pub use Rattle.std.specs.List.{AllByRecursion, filter, list_any}
unfoldable pub use Rattle.std.specs.List.{IsDistinct}
pub use Rattle.base_bits.specs.Numbers.{has_number, size_of}
pub use Rattle.machine_shape.specs.declared.Cross.{Cross}
pub use Rattle.machine_shape.specs.declared.Shape.{Shape}
pub use Rattle.machine_shape.specs.declared.Table.{Table}
unfoldable pub use Rattle.machine_shape.specs.Vocabulary.{crosses_of, pin_wire, pins_of, table_wire, tables_of, wires_of}
pub use Rattle.machine_meaning.specs.Vocabulary.{Faults, HasFeet, IsAlone, IsClear, Pins, stuck_cross, two}
pub use Rattle.machine_config.specs.Vocabulary.{LeadsTo, among}
pub use Rattle.rig.specs.Rig.{Explains, ForEach, Narrows, RigState}
pub use Rattle.diag_tests.specs.Vocabulary.{cross_numbers, other_end}
pub use Rattle.diag_evidence.specs.declared.hangs.WireTest.{WireTest}
pub use Rattle.diag_evidence.specs.declared.leads.Lead.{Lead}
pub use Rattle.diag_evidence.specs.Vocabulary.{Advances, Foot, HangsOn, HasRetaken, HoldsFor, IsFoot, IsLead, IsMore, KeepsSet, Kept}
pub use Rattle.diag_evidence.specs.Vocabulary.{crosses_along, crosses_of_leads, is_hung, loose_along, others, over_of, overs, pin_at}
pub use Rattle.diag_evidence.specs.Vocabulary.{pin_of, wires_along, wires_of_leads}
unfoldable pub use Rattle.diag_evidence.specs.Vocabulary.{is_apart, keeps_cross}
pub use Rattle.diag_evidence.proofs.Keeping.{advances_itself, advances_then, of_told, trial_by_gain}
pub use Rattle.diag_known.specs.declared.field.Field.{Field}
pub use Rattle.diag_known.specs.declared.verified_wire.VerifiedWire.{VerifiedWire}
pub use Rattle.diag_known.specs.Vocabulary.{HasWire, InSet, IsFieldOf, IsKnown, KnownWires, how_many, pins_in}
pub use Rattle.diag_known.proofs.Apart.{good_of, known_apart, known_pair}
pub use Rattle.diag_known.proofs.Counting.{many_all, many_more, many_size, set_has, set_other}
pub use Rattle.diag_known.proofs.Later.{all_still, known_later, known_retaken, learnt, retaken_all}
pub use Rattle.diag_sweep.specs.declared.budget.LoadBudget.{LoadBudget}
pub use Rattle.diag_sweep.specs.declared.defect_marks.DefectMarks.{DefectMarks}
pub use Rattle.diag_sweep.specs.declared.knowledge.Knowledge.{Knowledge}
pub use Rattle.diag_sweep.specs.Courses.{AreLoose, CanLead, MayTry}
pub use Rattle.diag_sweep.specs.Marks.{AreMarksFor, AreTrueMarks, HasTable, MarksIn, MarksSome, Pays, TrueIf, is_undecided, undecided}
pub use Rattle.diag_sweep.specs.Sheets.{AreOn, InputsOn, OutputOn}
pub use Rattle.diag_sweep.specs.Sights.{Seen, SeesMore}
pub use Rattle.diag_sweep.specs.Shown.{IsCoherent, Progress, ProgressButPairs, TrueOf}
pub use Rattle.diag_sweep.specs.Stages.{Goes, GoesYet, Hand, IsFunded, IsHand, IsHandYet, Settles, hand_of, in_hand}
