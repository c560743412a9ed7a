-- What the proofs here cite of the layers below, and of the specs.
pub use Rattle.std.proofs.Common.{List, [], ap, inl, inr, refl, subst, ℕ, ◌++◌, ◌-◌, ◌∙◌, ◌∷◌, ◌≡◌}
pub use Rattle.std.proofs.lemmas.Result.{err_from_is_err_and}
pub use Rattle.design_netlist.specs.declared.netlist_data.NetlistData.{NetlistData}
pub use Rattle.cmd_steps.specs.declared.design_file.DesignFile.TheVariants.{Design}
pub use Rattle.cmd_steps.specs.Vocabulary.{Outside, ends, most_vector_bytes, reads_design}
pub use Rattle.cmd_steps.proofs.Making.{nothing}
pub use Rattle.cmd_steps.proofs.OpenedLaws.{opened-ends, opened-lacks, opened-well}
pub use Rattle.cmd_steps.proofs.OpenedRows.{opening-lacks, opening-stops, outputs-stops, rows-then}
pub use Rattle.cmd_eval.specs.Eval.{EvalRight, design_evaluated, eval_course, eval_job, eval_rows}
