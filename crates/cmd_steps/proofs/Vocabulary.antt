-- What the proofs here cite of the layers below, and of the specs.
pub use Rattle.std.proofs.Common.{Bool, Err, List, None, Ok, Result, Some, [], ap, arith, inl, inr, length, refl, subst, sym, take, ℕ, ◌++◌}
pub use Rattle.std.proofs.Common.{◌<◌, ◌∙◌, ◌∷◌, ◌≡◌, ◌≤◌, ◌⊎◌}
pub use Rattle.std.proofs.Math.Seq.{drop-append_seam, get_or-append_seam, take-append-add, take-append_seam}
pub use Rattle.std.proofs.lemmas.Grind.{flat_map-append}
pub use Rattle.std.proofs.lemmas.List.{drop-drop, length-map, map-append, take-take}
pub use Rattle.std.proofs.lemmas.Result.{err_from_is_err_and}
pub use Rattle.std.specs.List.{AllByRecursion, list_any, sum_by}
pub use Rattle.base_text.specs.Vocabulary.{most_bytes}
pub use Rattle.base_io.specs.declared.store.StoreFail.{StoreFail}
pub use Rattle.base_io.specs.Vocabulary.{IfTold, IsPresent, PutFails, Rose, SinkState, StartFails, StoreState, Told, WholeFails, Wrote}
pub use Rattle.base_io.specs.Vocabulary.{absent, holds, untold}
pub use Rattle.machine_shape.specs.declared.Shape.{Shape}
unfoldable pub use Rattle.machine_shape.specs.Vocabulary.{most_text, pins_of}
pub use Rattle.machine_text.specs.Machine.{IsMachine}
pub use Rattle.machine_defects.specs.Vocabulary.{DefectList, IsText}
pub use Rattle.design_netlist.specs.declared.fault.DesignKind.TheVariants.{Limit}
pub use Rattle.design_netlist.specs.declared.netlist_data.NetlistData.{NetlistData}
pub use Rattle.design_blif.specs.Designs.{IsDesign, IsDesignFault, TooLong}
pub use Rattle.design_vectors.specs.Rows.{row_line}
pub use Rattle.machine_image.specs.Vocabulary.{ImageValue, IsImage, Reads}
unfoldable pub use Rattle.machine_image.specs.Vocabulary.{image_bytes}
pub use Rattle.rig.specs.Rig.{Asked, AttachFails, IsDetached, Machine, Narrows, Past, RigState, Tells, standing}
unfoldable pub use Rattle.rig.specs.Rig.{cycles_made}
pub use Rattle.cmd_steps.specs.declared.design_file.DesignFile.{DesignFile}
pub use Rattle.cmd_steps.specs.declared.refusal.Refusal.{Refusal}
pub use Rattle.cmd_steps.specs.declared.refusal.Refusal.TheVariants.{Memory}
pub use Rattle.cmd_steps.specs.declared.refusal.Stop.{Stop}
pub use Rattle.cmd_steps.specs.declared.refusal.Stop.TheVariants.{Refused, Sink}
pub use Rattle.cmd_steps.specs.Vocabulary.{Asks, AsksMachine, AsksSome, Course, FailsOnRig, Follows, IsCounted, IsLater, LogGoesOn, MayAsk}
pub use Rattle.cmd_steps.specs.Vocabulary.{Outside, Step, TellsTruly, Took, WriteStops, after, attaches, list_file, nets_text, outside}
pub use Rattle.cmd_steps.specs.Vocabulary.{plain_file, reads_defects, reads_design, reads_image, reads_machine, reads_text, stop_of_rig}
