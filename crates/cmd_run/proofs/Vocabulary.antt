-- What the proofs here cite of the layers below, and of the specs.
pub use Rattle.std.proofs.Common.{List, [], inl, inr, length, refl, subst, ℕ, ◌++◌, ◌∙◌, ◌∷◌, ◌≡◌, ◌≤◌}
pub use Rattle.machine_image.specs.Vocabulary.{ImageValue, image_row}
pub use Rattle.rig.specs.Rig.{Asked, RigState, cycles_of, readings_of, shape_of}
pub use Rattle.cmd_steps.specs.Vocabulary.{Outside, around, ends}
pub use Rattle.cmd_steps.proofs.Machines.{attach-stops, attached-gives, machine-stops, named}
pub use Rattle.run_image.specs.Rows.{RowsBegin, image_course, image_rows, most_rows}
pub use Rattle.run_image.proofs.CourseLemmas.{image-ends, image-few, image-well}
pub use Rattle.cmd_run.specs.Run.{RunFew, RunFiles, RunRight, run_course, run_files, run_job}
