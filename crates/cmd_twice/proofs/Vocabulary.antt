-- What the proofs here cite of the layers below, and of the specs.
pub use Rattle.std.proofs.Common.{Bool, List, [], inl, inr, refl, subst, sym, ℕ, ◌++◌, ◌∷◌, ◌≡◌, ◌⊎◌}
pub use Rattle.std.proofs.lemmas.List.{drop_at, length-map, map-append, take-append-drop, take-map, take_at}
pub use Rattle.std.specs.List.{All, AllByRecursion}
pub use Rattle.base_io.specs.Vocabulary.{Rose, Told, Wrote}
pub use Rattle.machine_shape.specs.declared.Shape.{Shape}
pub use Rattle.machine_meaning.specs.Vocabulary.{Covers, Faults, Pins}
pub use Rattle.machine_defects.specs.Vocabulary.{DefectList}
unfoldable pub use Rattle.machine_defects.specs.Vocabulary.{text_of}
pub use Rattle.design_netlist.specs.declared.netlist_data.NetlistData.{NetlistData}
pub use Rattle.design_netlist.specs.Rows.{HasOneRows}
pub use Rattle.design_netlist.specs.Vocabulary.{AreRows, IsChecked}
pub use Rattle.machine_image.specs.Vocabulary.{ImageValue, drive_of, image_row}
pub use Rattle.rig.specs.Rig.{Asked, Explains, RigState, config_of, cycles_of, drives_of, readings_of}
pub use Rattle.diag_list.specs.Lists.{IsListed, Listed, MadeFewLoads, lists}
pub use Rattle.cmd_steps.specs.declared.design_file.DesignFile.TheVariants.{Design}
pub use Rattle.cmd_steps.specs.declared.refusal.Refusal.{Refusal}
pub use Rattle.cmd_steps.specs.declared.refusal.Stop.{Stop}
pub use Rattle.cmd_steps.specs.declared.refusal.Stop.TheVariants.{Refused, Sink}
pub use Rattle.cmd_steps.specs.Vocabulary.{Around, Asks, Course, IsLawful, IsWritten, LoadsOnce, Outside, ShortPlace, StepStops, Took}
pub use Rattle.cmd_steps.specs.Vocabulary.{around, ends}
pub use Rattle.cmd_steps.proofs.Standing.{Adds, Standing, stands-end}
pub use Rattle.place_both.specs.Both.{AreBothRows, IsNoRoomForBoth, lays_both, side_by_side}
pub use Rattle.run_image.specs.declared.copies.Copies.TheVariants.{Two}
pub use Rattle.run_image.specs.Copying.{HalvesDiffer, all_repeated, share, times}
pub use Rattle.run_image.specs.Laid.{AreLaidRows, IsLaidOn, Laid, rows_work}
pub use Rattle.run_image.specs.Rows.{ReadsApart, loads}
pub use Rattle.run_image.proofs.Copied.{half-of, repeated-count}
pub use Rattle.cmd_twice.specs.Twice.{IsImageForTwice, lays_twice, twice_course, twice_job, twice_laid}
