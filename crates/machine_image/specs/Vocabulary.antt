-- What the crates above, and the proofs here, speak of.
pub use Rattle.machine_image.specs.Images.{ImageValue, IsImage, IsImageFault, IsRefusedAs, Reads, bit_for, closed_in, drive_of, drive_on}
pub use Rattle.machine_image.specs.Images.{flags_of, four, image_row, on_at, row_at, table_bytes, tables_on, two}
unfoldable pub use Rattle.machine_image.specs.Images.{IsFirstImageFault, image_bytes}
pub use Rattle.machine_image.specs.Faults.{InCounts, InCrosses, InEnd, InField, InImage, InPins, InTables, InTicks, Stands, above_fault}
pub use Rattle.machine_image.specs.Faults.{closed_fault, count_fault, counts_of, flags_fault, magic, magic_fault, most_fault, no_fault}
pub use Rattle.machine_image.specs.Faults.{pin_fault, ticks_fault}
pub use Rattle.machine_image.specs.Fields.{AreMarks, FaultIn, IsCut, IsField, IsRefusedField, Passed}
pub use Rattle.machine_image.specs.Parts.{CrossPart, IsFreeImage, IsInvolved, IsPartOf, IsSurroundingCross, IsSurroundingWire, IsWideEnough}
pub use Rattle.machine_image.specs.Parts.{Part, TablePart, Uses, WirePart, at_line, at_pin, at_table, at_tap, by_cross, by_wire, node_line}
pub use Rattle.machine_image.specs.Parts.{node_port, root_pin, used_wire}
pub use Rattle.machine_image.specs.Reading.{AreCrosses, ArePins, AreSettings, AreTables, Bounds, CrossesRead, IsHead, IsTable, TablesRead}
pub use Rattle.machine_image.specs.Reading.{head_bytes, settings_bytes}
