-- What the proofs here cite of the layers below, and of the specs.
pub use Rattle.std.proofs.Common.{All, Bool, List, [], ap, arith, inl, inr, length, map, refl, subst, sym, ℕ, ◌<◌, ◌∙◌, ◌∷◌, ◌≡◌}
pub use Rattle.std.proofs.lemmas.Result.{err_from_is_err_and}
pub use Rattle.base_io.specs.Vocabulary.{Told}
pub use Rattle.machine_shape.specs.declared.Shape.{Shape}
unfoldable pub use Rattle.machine_shape.specs.Vocabulary.{most_repaired, nodes_of}
pub use Rattle.machine_meaning.specs.Vocabulary.{AreFaultsOf, Covers, Defects, Faults, IsFaultless}
pub use Rattle.place_plan.specs.declared.short.Short.{Short}
pub use Rattle.machine_image.specs.Vocabulary.{ImageValue, Reads, drive_of}
unfoldable pub use Rattle.machine_image.specs.Vocabulary.{image_bytes}
pub use Rattle.place_repair.specs.declared.seats.Seats.{Seats}
pub use Rattle.cmd_steps.specs.Vocabulary.{IsDefectsText, IsMachineText, Outside, StandsAmong, ends, plain_file, reads_image}
pub use Rattle.cmd_steps.proofs.Making.{nothing}
pub use Rattle.cmd_steps.proofs.Reading.{HasReadAmong, gives-among, line-last, more-among, none-read, stops-among}
pub use Rattle.cmd_steps.proofs.Taking.{took-stop, took-value}
pub use Rattle.cmd_repair.specs.Repair.{AreRightFiles, image_taken, image_written, repair_course, repair_files, repair_job}
pub use Rattle.cmd_repair.specs.Repairing.{HasTooMany, IsRepairOf, NotRepaired, repairs, takes_few}
