-- What the proofs here cite of the layers below, and of the specs.
pub use Rattle.std.proofs.Common.{Bool, List, None, [], ap, arith, false, length, map, not, refl, replicate, subst, sym, take, true, ℕ}
pub use Rattle.std.proofs.Common.{◌&&◌, ◌++◌, ◌+◌, ◌-◌, ◌<◌, ◌^◌, ◌∙◌, ◌∷◌, ◌≡◌, ◌≤◌}
pub use Rattle.std.proofs.Math.Bool.{and-false, or-false, or-true}
pub use Rattle.std.proofs.lemmas.Bool.{and_parts, eq-eqb, false_from_ne_true, false≢true, not-true, not_from_false}
pub use Rattle.std.proofs.lemmas.Bool.Decides.{nat_tests}
pub use Rattle.std.proofs.lemmas.Grind.{get_or_default_zero}
pub use Rattle.std.proofs.lemmas.List.{get_or-replicate, get_or_past, length-replicate, length-set, length-take-le, map-append, take_rest}
pub use Rattle.std.proofs.lemmas.List.Folds.{flat_map-map, list_any-append}
pub use Rattle.std.specs.Cmp.{both_ways, nat_cmp_total}
pub use Rattle.std.specs.FinSet.{contains-empty}
pub use Rattle.std.specs.Fmt.{decimal}
pub use Rattle.std.specs.List.{AllByRecursion, flat_map, list_all, list_any, position_or_len}
pub use Rattle.std.specs.Ordering.{nat_cmp}
pub use Rattle.std.specs.Str.{bytes_eq}
pub use Rattle.std.specs.Vec.{with_items}
pub use Rattle.base_bits.specs.Numbers.{has_number}
pub use Rattle.base_bits.proofs.SetsLemmas.{contains_more, items_after, or_more}
pub use Rattle.base_text.specs.Vocabulary.{spaced, written, written_line}
pub use Rattle.machine_shape.specs.declared.Shape.{Shape}
pub use Rattle.machine_shape.specs.Shape.IsTap.{tap_child, tap_pin, tap_port, tap_table}
pub use Rattle.machine_shape.specs.Shape.Meaning.{Line}
pub use Rattle.machine_shape.specs.Shape.Means.{is_line}
pub use Rattle.machine_shape.specs.Vocabulary.{HasCrosses, HasNames, IsNumbered}
unfoldable pub use Rattle.machine_shape.specs.Vocabulary.{crosses_of, ends_of, line_at, line_position, lines_of, node_of_cross, nodes_of}
unfoldable pub use Rattle.machine_shape.specs.Vocabulary.{own_ports_of, pin_wire, port_at, table_name, table_wire, tables_of, tap_position}
unfoldable pub use Rattle.machine_shape.specs.Vocabulary.{taps_of, wire_name, wires_of}
pub use Rattle.machine_shape.proofs.Totals.{crosses_are, ports_within, wires_are}
pub use Rattle.machine_meaning.specs.Vocabulary.{IsFreeCross, IsFreeTable, IsFreeWire}
pub use Rattle.machine_defects.specs.declared.entry.Entry.{Entry}
pub use Rattle.machine_defects.specs.declared.entry.Entry.TheVariants.{Cross, Table, Wire}
pub use Rattle.machine_defects.specs.declared.kind.DefectsKind.{DefectsKind}
pub use Rattle.machine_defects.specs.Faults.AreAbove.{begun, listed, nothing}
pub use Rattle.machine_defects.specs.Faults.IsEntryForm.{cross_form, table_form, wire_form}
pub use Rattle.machine_defects.specs.Faults.IsForm.{end_form, entry_form, first_form, shape_form}
pub use Rattle.machine_defects.specs.Faults.IsLineFault.{again, earlier, formless, nameless, other_machine}
pub use Rattle.machine_defects.specs.Vocabulary.{AreCounts, AreOwners, AreOwnersBefore, AreRecounted, AreRight, AreShutBy, DefectList}
pub use Rattle.machine_defects.specs.Vocabulary.{IsAdded, IsBeyond, IsDefectList, IsEntryForm, IsFreeEntry, IsReadTo, IsSwept, IsText}
pub use Rattle.machine_defects.specs.Vocabulary.{IsWord, all_below, as_cross, as_table, as_wire, count_at, counts_of, entry_words, how_many}
pub use Rattle.machine_defects.specs.Vocabulary.{is_clear_line, is_inner, listed_by, marked, marks_in, numerals, rows_of, those, without}
