-- What the proofs here cite of the layers below, and of the specs.
pub use Rattle.std.proofs.Common.{All, List, None, Some, [], ap, arith, codes, false, get_or, if◌then◌else◌, is_some, length, refl, subst}
pub use Rattle.std.proofs.Common.{sym, take, true, ℕ, ◌++◌, ◌+◌, ◌-◌, ◌<◌, ◌==◌, ◌∙◌, ◌∷◌, ◌≡◌, ◌≢◌, ◌≤◌}
pub use Rattle.std.proofs.Math.ListN.{get_or-append}
pub use Rattle.std.proofs.lemmas.Bool.{cases_lt, eq-eqb, eqb-true, false≢true, ne_eqb}
pub use Rattle.std.proofs.lemmas.Bool.Decides.{Decides-eqb, nat_tests}
pub use Rattle.std.proofs.lemmas.Grind.{flat_map-append}
pub use Rattle.std.proofs.lemmas.List.{append-nil, append_assoc, drop-drop, drop_at, drop_more, get_or-append-add, get_or-set_other}
pub use Rattle.std.proofs.lemmas.List.{get_or-set_same, get_or_default, get_or_past, length-append, length-drop, length-set}
pub use Rattle.std.proofs.lemmas.List.Elements.{All-append, All-push, Contains-append_left, Contains-append_right}
pub use Rattle.std.proofs.lemmas.List.Folds.{list_any-append, list_any_at, list_any_none}
pub use Rattle.std.proofs.lemmas.List.FromFn.{fill_by_all, get_or-map-range_with_len, length-map-range_with_len}
pub use Rattle.byteorder.specs.Endian.{big_bytes, big_from}
pub use Rattle.std.specs.Cmp.{nat_cmp_total, unsigned_tied}
pub use Rattle.std.specs.FinSet.{contains-empty, len-empty, len-insert, nat_cmp-IsAntisymmetric, same_set}
pub use Rattle.std.specs.List.{AllPairs, flat_map, list_any, range_with_len}
pub use Rattle.std.specs.Ordering.{nat_cmp}
pub use Rattle.machine_shape.specs.declared.Cross.{Cross}
pub use Rattle.machine_shape.specs.declared.Shape.{Shape}
pub use Rattle.machine_shape.specs.declared.Table.{Table}
pub use Rattle.machine_shape.specs.Vocabulary.{Ends, IsNumbered}
unfoldable pub use Rattle.machine_shape.specs.Vocabulary.{crosses_of, ends_of, is_small, levels_of, most_closed, most_ticks, pin_wire}
unfoldable pub use Rattle.machine_shape.specs.Vocabulary.{pins_of, table_wire, tables_of, wires_of}
pub use Rattle.machine_shape.proofs.HighLimits.{high_limits, small_is}
pub use Rattle.machine_meaning.specs.Vocabulary.{Defects, IsFreeCross, IsFreeTable, IsFreeWire}
pub use Rattle.machine_config.specs.declared.Setting.{Setting}
pub use Rattle.machine_config.specs.Vocabulary.{CellsFit, Configuration, IsConfiguration, cleared, is_closed, setting_of, with_closed}
pub use Rattle.machine_config.specs.Vocabulary.{with_setting, with_ticks}
pub use Rattle.machine_config.proofs.Changes.{insert-remove, is_closed-closed}
pub use Rattle.machine_image.specs.declared.kind.ImageFault.{ImageFault}
pub use Rattle.machine_image.specs.declared.kind.ImageFault.TheVariants.{At, Memory}
pub use Rattle.machine_image.specs.declared.kind.ImageKind.{ImageKind}
pub use Rattle.machine_image.specs.Vocabulary.{AreCrosses, AreMarks, ArePins, AreTables, FaultIn, ImageValue, InField, InTables, IsField}
pub use Rattle.machine_image.specs.Vocabulary.{IsFreeImage, IsImage, IsRefusedField, IsTable, Passed, Reads, Stands, above_fault, bit_for}
pub use Rattle.machine_image.specs.Vocabulary.{closed_fault, closed_in, count_fault, counts_of, drive_of, drive_on, flags_of, four}
pub use Rattle.machine_image.specs.Vocabulary.{head_bytes, image_row, most_fault, on_at, pin_fault, settings_bytes, table_bytes, tables_on}
pub use Rattle.machine_image.specs.Vocabulary.{ticks_fault, two}
