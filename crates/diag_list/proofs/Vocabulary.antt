-- What the proofs here cite of the layers below, and of the specs.
pub use Rattle.std.proofs.Common.{Err, List, Ok, Result, Some, [], ap, arith, inl, inr, refl, subst, sym, ℕ, ◌*◌, ◌+◌, ◌∙◌, ◌∷◌, ◌≡◌, ◌≤◌}
pub use Rattle.std.proofs.lemmas.Result.{err_from_is_err_and}
pub use Rattle.base_io.specs.Vocabulary.{IfTold, Rose, SinkState, StoreState, Told}
pub use Rattle.machine_shape.specs.declared.Shape.{Shape}
pub use Rattle.machine_defects.specs.Vocabulary.{DefectList, IsDefectList}
pub use Rattle.rig.specs.Rig.{Asked, Machine, RigState, shape_of}
unfoldable pub use Rattle.rig.specs.Rig.{cycles_made}
pub use Rattle.diag_list.specs.Lists.{IsListed, Listed, MadeFewLoads, Makes, WritesList, lists, lists_now, unloaded}
pub use Rattle.cmd_steps.specs.declared.refusal.Stop.{Stop}
pub use Rattle.cmd_steps.specs.Vocabulary.{Course, Ended, Follows, IsCounted, IsLater, Outside, StepStops, Took, after, around, attaches}
pub use Rattle.cmd_steps.specs.Vocabulary.{outputs_line, outside, reads_machine, stop_of_rig, write, wrong_words}
pub use Rattle.cmd_steps.proofs.Logs.{log_kept, narrows_by}
pub use Rattle.cmd_steps.proofs.Taking.{asks-machine, later-later, line-gives, line-stops, stands-then, step-gives, step-stops, took-lacks}
