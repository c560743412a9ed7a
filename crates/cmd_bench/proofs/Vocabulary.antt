-- What the proofs here cite of the layers below, and of the specs.
pub use Rattle.std.proofs.Common.{Bool, Err, List, Ok, Result, Some, [], ap, arith, cond, false, inl, length, refl, slice_index_or, subst}
pub use Rattle.std.proofs.Common.{suc, sym, true, zero, ℕ, ◌<◌, ◌∙◌, ◌∷◌, ◌≡◌}
pub use Rattle.std.proofs.lemmas.Bool.{eqb-true, false≢true, ltb-true}
pub use Rattle.std.proofs.lemmas.List.FromFn.{get_or-map-range_with_len, length-map-range_with_len, map-range_with_len_more}
pub use Rattle.std.proofs.lemmas.Result.{err_from_is_err_and}
pub use Rattle.std.specs.Fmt.{decimal}
unfoldable pub use Rattle.std.specs.Fmt.{digits}
pub use Rattle.std.specs.List.{All, Contains, range_with_len}
pub use Rattle.machine_shape.specs.declared.Counts.{Counts}
pub use Rattle.machine_shape.specs.declared.Shape.{Shape}
pub use Rattle.machine_meaning.specs.Vocabulary.{Covers, Defects, Faults, IsFair, IsServed}
pub use Rattle.machine_bench.specs.Work.{bench_counts, bench_design}
pub use Rattle.design_netlist.specs.declared.netlist_data.NetlistData.{NetlistData}
pub use Rattle.design_flatten.specs.declared.model.Model.{Model}
pub use Rattle.design_blif.specs.Designs.{IsDesign}
unfoldable pub use Rattle.map_network.specs.Vocabulary.{cover_tables, covers_tables, plain_network}
pub use Rattle.place_plan.specs.Vocabulary.{nets_in}
pub use Rattle.cmd_steps.specs.declared.refusal.Stop.{Stop}
pub use Rattle.cmd_steps.specs.Vocabulary.{IsWritten, Outside, Took, around, ends, outside, stop_of_rig}
pub use Rattle.cmd_steps.proofs.Making.{nothing, rig-stopped, rig-took}
pub use Rattle.run_image.specs.Pins.{Rows, pins_in}
pub use Rattle.run_image.proofs.Driving.{HasDriven, driven-more, driven-start, explained-run}
pub use Rattle.cmd_bench.specs.Bench.{RunsOnes, bench_job, bench_rows, bench_vector, first_vectors, ones_in, ones_of, runs}
pub use Rattle.cmd_bench.specs.Design.{bench_cover, bench_draft, bench_latches, bench_names}
