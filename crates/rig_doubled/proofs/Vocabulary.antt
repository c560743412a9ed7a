-- What the proofs here cite of the layers below, and of the specs.
pub use Rattle.std.proofs.Common.{Bool, IfSome, List, None, Option, Some, [], ap, append_assoc, arith, false, get_or, length, min, refl}
pub use Rattle.std.proofs.Common.{rules, subst, sym, take, true, ◌++◌, ◌+◌, ◌-◌, ◌<◌, ◌^◌, ◌∙◌, ◌∷◌, ◌≡◌, ◌≤◌}
pub use Rattle.std.proofs.Math.Bool.{beq}
pub use Rattle.std.proofs.lemmas.Bool.{false≢true}
pub use Rattle.std.proofs.lemmas.List.{append_cancel_left, flat_map_more, length-take-le, map-append, take-append-drop, take_more}
pub use Rattle.std.specs.List.{AllByRecursion}
pub use Rattle.std.specs.Option.{option_map_or}
pub use Rattle.base_io.specs.Vocabulary.{Rose, next_count}
pub use Rattle.machine_shape.specs.declared.Cross.{Cross}
unfoldable pub use Rattle.machine_shape.specs.Vocabulary.{crosses_of, most_ticks, pins_of, tables_of}
pub use Rattle.machine_meaning.specs.Vocabulary.{Faults, Pins}
pub use Rattle.machine_config.specs.Vocabulary.{Configuration, Cycles, IsRun, Roomy, at_load, circuit_of, cleared, is_closed, set_of}
pub use Rattle.machine_config.specs.Vocabulary.{with_closed, with_setting, with_ticks}
pub use Rattle.rig.specs.Rig.{GoesOn, GoesOnBy, KeepLengths, Machine, Narrows, RigState, shape_of, standing}
pub use Rattle.rig.proofs.Narrowing.{narrows_cycle, narrows_cycles, narrows_load, runs_more, session_run, standing_runs}
pub use Rattle.rig_doubled.specs.declared.kept.Kept.{Kept}
pub use Rattle.rig_doubled.specs.declared.pairs.Pair.{Pair}
pub use Rattle.rig_doubled.specs.Repeats.{HaveWidth, IsKept, IsOfSession, IsRepeating, IsRoomy, IsRunUnder, KeepsFor, Repeated, StillKeeps}
pub use Rattle.rig_doubled.specs.Repeats.{ended_in, loads_taken, repeat_state, with_crosses}
pub use Rattle.rig_doubled.specs.Twins.{ArePaired, IsTwinned, Twins, session_with}
