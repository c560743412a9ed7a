-- What the proofs here cite of the layers below, and of the specs.
pub use Rattle.std.proofs.Common.{Err, List, Ok, Result, [], ap, arith, inl, inr, map, refl, string_bytes, subst, sym, ℕ, ◌++◌, ◌∷◌, ◌≡◌}
pub use Rattle.std.proofs.Common.{◌⊎◌}
pub use Rattle.std.proofs.lemmas.Result.{err_from_is_err_and}
pub use Rattle.std.specs.List.{list_any}
pub use Rattle.base_io.specs.Vocabulary.{IfTold, Rose, StoreState, Wrote}
pub use Rattle.machine_shape.specs.declared.Shape.{Shape}
pub use Rattle.design_netlist.specs.declared.netlist_data.NetlistData.{NetlistData}
unfoldable pub use Rattle.map_network.specs.Vocabulary.{plain_network}
pub use Rattle.map_text.specs.declared.text.Remapped.{Remapped}
pub use Rattle.map_text.specs.Remapped.{HasNarrowCovers, HasPlan, HaveSameRows, IsNarrowOr, MayStandFor}
pub use Rattle.cmd_steps.specs.declared.design.DesignText.{DesignText}
pub use Rattle.cmd_steps.specs.declared.design_file.DesignFile.TheVariants.{Design}
pub use Rattle.cmd_steps.specs.Vocabulary.{Around, Asked, DoesAsked, EndsWell, IsCounted, IsExcused, IsLawful, Outside, Step, StepStops}
pub use Rattle.cmd_steps.specs.Vocabulary.{Took, around, is_dashed, outside, plain_file, reads_text, third_files}
pub use Rattle.cmd_steps.proofs.AskedLemmas.{does-job, does-none, ended-asked, ends-so, list_any-map}
pub use Rattle.cmd_steps.proofs.Done.{EndedAs, done-as}
pub use Rattle.cmd_steps.proofs.Making.{nothing}
pub use Rattle.cmd_steps.proofs.QuietJobs.{line-ended, quiet-lawful}
pub use Rattle.cmd_steps.proofs.Reading.{line-last}
pub use Rattle.cmd_steps.proofs.Taking.{took-nothing, took-stop, took-value}
pub use Rattle.cmd_steps.proofs.Values.{value-gives, value-stops}
pub use Rattle.cmd_compile.specs.Compile.{CompileRight, compile_files}
pub use Rattle.cmd_map.specs.Maps.{NotMapped, design_fitted, design_mapped, fit_course, fit_job, map_course, map_job, maps, maps_within}
