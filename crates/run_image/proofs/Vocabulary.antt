-- What the proofs here cite of the layers below, and of the specs.
pub use Rattle.std.proofs.Common.{All, Bool, Err, List, None, Ok, Result, Some, [], ap, arith, drop, flat_map, get_or, inl, inr, length}
pub use Rattle.std.proofs.Common.{map, refl, slice_index_or, subst, sym, take, true, ℕ, ◌*◌, ◌++◌, ◌+◌, ◌-◌, ◌<◌, ◌∙◌, ◌∷◌, ◌≡◌, ◌≤◌}
pub use Rattle.std.proofs.Math.Seq.{drop-append_seam, take-append_seam, take-suc, take-suc-set}
pub use Rattle.std.proofs.lemmas.Bool.{cases_eq, eq-eqb, eqb-false, eqb-true, ne_eqb}
pub use Rattle.std.proofs.lemmas.List.{at_drop_more, length-map, length-set, map-append, take-append-drop, take_all, take_more}
pub use Rattle.std.proofs.lemmas.List.Elements.{All-append, All-set}
pub use Rattle.std.proofs.lemmas.Option.{gets}
pub use Rattle.std.proofs.lemmas.Result.{err_from_is_err_and}
pub use Rattle.std.specs.List.{AllByRecursion}
pub use Rattle.base_io.specs.Vocabulary.{IfTold, Rose, SinkState, StoreState, Told, Wrote, holds, next_count}
pub use Rattle.machine_shape.specs.declared.Shape.{Shape}
unfoldable pub use Rattle.machine_shape.specs.Vocabulary.{pins_of}
pub use Rattle.machine_shape.proofs.Halves.{All-right}
pub use Rattle.machine_meaning.specs.Vocabulary.{Covers, Faults, Pins}
pub use Rattle.machine_text.specs.Machine.{IsMachine}
pub use Rattle.machine_config.specs.Vocabulary.{Configuration, IsRun}
pub use Rattle.machine_defects.specs.Vocabulary.{DefectList}
unfoldable pub use Rattle.machine_defects.specs.Vocabulary.{text_of}
pub use Rattle.design_netlist.specs.declared.netlist_data.NetlistData.{NetlistData}
pub use Rattle.design_vectors.specs.Readings.{GivesUnread, VectorReading}
pub use Rattle.design_vectors.specs.Rows.{row_line}
pub use Rattle.machine_image.specs.Vocabulary.{ImageValue, bit_for, drive_of, drive_on, image_row, row_at}
pub use Rattle.place_route.specs.Vocabulary.{ReadsRows}
pub use Rattle.rig.specs.declared.rig.RigFail.{RigFail}
pub use Rattle.rig.specs.declared.rig.RigFail.TheVariants.{Failed, Memory}
pub use Rattle.rig.specs.Rig.{AreRows, Asked, CyclesFail, Exchange, Explains, GoesOnBy, LoadFails, Narrows, RigState, Tells, cycles_of}
pub use Rattle.rig.specs.Rig.{drives_of, readings_of, spare_of, width_of}
pub use Rattle.diag_list.specs.Lists.{IsListed, Listed, MadeFewLoads, WritesList, few, lists, unloaded}
pub use Rattle.cmd_steps.specs.declared.design_file.DesignFile.{DesignFile}
pub use Rattle.cmd_steps.specs.declared.refusal.Refusal.{Refusal}
pub use Rattle.cmd_steps.specs.declared.refusal.Stop.{Stop}
pub use Rattle.cmd_steps.specs.Vocabulary.{Follows, Outside, StandsIn, Took, around, most_vector_bytes, outside}
pub use Rattle.cmd_steps.proofs.Excused.{rig-excused}
pub use Rattle.cmd_steps.proofs.Leading.{after-leads, step-leads, stopped}
pub use Rattle.cmd_steps.proofs.Making.{nothing, rig-stopped, rig-took}
pub use Rattle.cmd_steps.proofs.Standing.{Adds, Standing, stands-done, stands-end}
pub use Rattle.cmd_steps.proofs.Taking.{later-same, step-gives, step-stops, took-nothing}
pub use Rattle.run_image.specs.declared.copies.Copies.{Copies}
pub use Rattle.run_image.specs.declared.copies.Copies.TheVariants.{One, Two}
pub use Rattle.run_image.specs.declared.image.Running.{Running}
pub use Rattle.run_image.specs.Batches.{HaveRows, most_together, rows_in}
pub use Rattle.run_image.specs.Copying.{AreShared, IsApart, all_repeated, repeated, share, times}
pub use Rattle.run_image.specs.Driven.{driven}
pub use Rattle.run_image.specs.Headline.{BeginsWithList, IsAsRead, IsWrittenWhole, UsesNothingListed, none, part, whole}
pub use Rattle.run_image.specs.Laid.{AreLaidRows, IsLaidOn, Laid, rows_work}
pub use Rattle.run_image.specs.Pins.{Rows, pins_in}
pub use Rattle.run_image.specs.Rows.{AreRowsOf, AreRunRows, DiffersBehind, IsAtOutputs, IsSession, RowsBegin, copied_rows, image_course}
pub use Rattle.run_image.specs.Rows.{loaded_course, loads, most_rows}
pub use Rattle.run_image.specs.Run.{RunsRow, RunsRows}
pub use Rattle.run_image.specs.Running.{HasAddedAll, IsFitting, IsSameRun, ReadsMore, prepares, readings_in, together_of}
pub use Rattle.run_image.specs.Runs.{HasOutputs, HasStayed, RunBegin, image_run, laid_run, machine_listed}
