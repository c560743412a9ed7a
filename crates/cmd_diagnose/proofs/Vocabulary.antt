-- What the proofs here cite of the layers below, and of the specs.
pub use Rattle.std.proofs.Common.{Err, List, Ok, Result, [], ap, append-nil, inl, inr, refl, subst, sym, ℕ, ◌++◌, ◌∙◌, ◌∷◌, ◌≡◌}
pub use Rattle.base_io.specs.Vocabulary.{SinkState, StoreState, Wrote}
unfoldable pub use Rattle.machine_defects.specs.Vocabulary.{text_of}
pub use Rattle.diag_list.specs.Lists.{Listed, MadeFewLoads, WritesList, few, lists, unloaded}
pub use Rattle.diag_list.specs.Possible.{MakesFewCycles}
pub use Rattle.diag_list.proofs.FewCycles.{few-listed, few-unasked, few-unloaded}
pub use Rattle.cmd_steps.specs.Vocabulary.{Around, Next, Outside, around, ends}
pub use Rattle.cmd_steps.proofs.Leading.{after-leads, done-leads, stopped, write-leads}
pub use Rattle.cmd_diagnose.specs.Diagnose.{diagnose_course, diagnose_job, machine_listed}
