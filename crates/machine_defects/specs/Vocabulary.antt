-- What the crates above, and the proofs here, speak of.
pub use Rattle.machine_defects.specs.Faults.{AreAbove, AreCounts, GivesOrLacks, IsBeforeLast, IsEntryForm, IsFaultAt, IsFaultBehind}
pub use Rattle.machine_defects.specs.Faults.{IsFirstFault, IsForm, IsLineFault, IsText, IsWord, is_inner}
pub use Rattle.machine_defects.specs.Kept.{AreOwners, AreOwnersBefore, AreRecounted, AreRight, AreShutBy, IsItOrAbove, IsKept, IsRecounted}
pub use Rattle.machine_defects.specs.Kept.{IsSwept, IsWide, Loses, Marks, clear_lines_at, count_at, free_pins_in, free_ports_at, is_barred}
pub use Rattle.machine_defects.specs.Kept.{is_clear_line, is_lost, list_in, listed_by, marked, marks_in, shut_at}
pub use Rattle.machine_defects.specs.Lists.{DefectList, IsDefectList, IsWithWire, all_below, free_pins_of, free_ports_of, free_tables_of}
pub use Rattle.machine_defects.specs.Lists.{has_free_ends, has_free_pins, how_many, is_free_cross, is_free_table, is_free_wire}
pub use Rattle.machine_defects.specs.Lists.{is_open_line, leaves_open, no_defects, open_lines_of, those, touches_cross, touches_table}
pub use Rattle.machine_defects.specs.Lists.{with_cross, with_table}
pub use Rattle.machine_defects.specs.Steps.{IsAdded, IsBeyond, IsFirst, IsLast, IsReadTo, is_behind, is_listed, is_same, numerals, row_of}
pub use Rattle.machine_defects.specs.Steps.{without}
pub use Rattle.machine_defects.specs.Text.{IsEntryOf, IsFreeEntry, as_cross, as_table, as_wire, counts_of, end_row, entries_of}
pub use Rattle.machine_defects.specs.Text.{entry_number, entry_words, first_row, is_before, kind_of, rows_of, shape_row}
unfoldable pub use Rattle.machine_defects.specs.Text.{text_of}
