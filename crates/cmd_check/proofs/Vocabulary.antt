-- What the proofs here cite of the layers below, and of the specs.
pub use Rattle.std.proofs.Common.{Bool, IsSome, IsTrue, List, None, Ok, Result, [], false, inl, inr, length, refl, subst, sym, true, ℕ}
pub use Rattle.std.proofs.Common.{⊎_elim, ◌*◌, ◌++◌, ◌-◌, ◌<◌, ◌∙◌, ◌∷◌, ◌≡◌}
pub use Rattle.std.proofs.lemmas.Bool.{cases_eq, cases_lt, false≢true}
pub use Rattle.base_bits.specs.Numbers.{has_number, size_of}
pub use Rattle.base_io.specs.Vocabulary.{SinkState, StoreState, Wrote}
pub use Rattle.machine_shape.specs.declared.Shape.{Shape}
pub use Rattle.machine_meaning.specs.Vocabulary.{Covers, Faults, IsFreeCross, IsFreeTable, IsFreeWire, IsTight}
pub use Rattle.machine_config.specs.Vocabulary.{Configuration, is_closed, setting_of}
pub use Rattle.machine_image.specs.Vocabulary.{CrossPart, ImageValue, Part, TablePart, WirePart, at_line, at_pin, at_table, at_tap}
pub use Rattle.rig.specs.Rig.{Explains, ForEach, LoadFails, RigState}
pub use Rattle.diag_settled.proofs.Settling.{Settles, one-more, settled-counted, settled-later}
pub use Rattle.cmd_steps.specs.Vocabulary.{Around, Course, Follows, IsExcused, IsLater, IsLawful, Outside, StepStops, Took, around, ends}
pub use Rattle.cmd_steps.specs.Vocabulary.{outside, reads_image, reads_machine, stop_of_rig}
pub use Rattle.cmd_steps.proofs.Exits.{err-is}
pub use Rattle.cmd_steps.proofs.Keeping.{kept-gives, line-kept}
pub use Rattle.cmd_steps.proofs.Making.{nothing, rig-took, stopped-quietly, took-quietly}
pub use Rattle.cmd_steps.proofs.RigFails.{kept-lacks, kept-refuses, rig-fails}
pub use Rattle.cmd_steps.proofs.Taking.{later-later, took-lacks, took-value}
pub use Rattle.cmd_check.specs.declared.answer.Answer.{Answer}
pub use Rattle.cmd_check.specs.declared.answer.Answer.TheVariants.{Sound}
pub use Rattle.cmd_check.specs.Check.{answers, check_job, image_tested, image_tried}
pub use Rattle.cmd_check.specs.Testing.{HasTestLeft, IsTried, Tried, tests_now}
