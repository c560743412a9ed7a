-- What the proofs here cite of the layers below, and of the specs.
pub use Rattle.std.proofs.Math.Path.{fun_ext}
pub use Rattle.std.proofs.lemmas.Bool.{cases_lt, eq-eqb, eqb-true, false≢true}
pub use Rattle.std.proofs.lemmas.List.{ext_get_or, get_or-map, get_or_default, get_or_past, length-map, take-map, take_all}
pub use Rattle.std.proofs.lemmas.List.Elements.{All-contains, All-map, Contains-append_left, recursion_from_All}
pub use Rattle.std.proofs.lemmas.List.FromFn.{get_or-map-range_with_len, length-map-range_with_len}
pub use Rattle.std.specs.List.{All, AllByRecursion, Contains, range_with_len}
pub use Rattle.std.specs.Ordering.{nat_cmp}
pub use Rattle.machine_shape.specs.declared.Shape.{Shape}
pub use Rattle.machine_shape.specs.Vocabulary.{Ends, IsNumbered, in_order, turned}
unfoldable pub use Rattle.machine_shape.specs.Vocabulary.{crosses_of, ends_of, pin_wire, pins_of, table_wire, tables_of, wires_of}
pub use Rattle.machine_shape.proofs.Crossings.{first_below}
pub use Rattle.machine_meaning.specs.Vocabulary.{AreValues, Circuit, Faults, IsFaultless, Outputs, Pins, Table}
pub use Rattle.machine_meaning.proofs.Values.{AreValues-unique, IsValue-unique}
pub use Rattle.machine_config.specs.declared.Setting.{Setting}
pub use Rattle.machine_config.specs.Vocabulary.{Configuration, IsConfiguration, IsRun, after_edge, after_tick, circuit_of, is_closed}
pub use Rattle.machine_config.specs.Vocabulary.{pins_read, setting_of}
pub use Rattle.machine_image.proofs.Touching.{on_below, true_some}
pub use Rattle.machine_history.specs.Vocabulary.{AreAmong, IsDriveFor, IsTenantOf, LeavesAlone, drive_alone}
