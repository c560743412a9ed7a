-- What the crates above, and the proofs here, speak of.
pub use Rattle.machine_shape.specs.Walk.{IsPlaceOf, IsSpot, Levels, Own, Path, Place, above, child_port, children_in, crosses_in, lines_in}
pub use Rattle.machine_shape.specs.Walk.{next, nodes_in, place_in, ports_in, rest, size, start, step, stop, tables_in, tap_in, taps_in}
pub use Rattle.machine_shape.specs.Walk.{trunk, under, wires_in}
pub use Rattle.machine_shape.specs.Counts.{AreAmple, AreFull, IsAmple, IsFull}
unfoldable pub use Rattle.machine_shape.specs.Counts.{levels_from}
pub use Rattle.machine_shape.specs.Shape.{Ends, IsAbove, IsTap, Line, Meaning, Means, Pin, Port, TablePin, below, in_order, is_line, is_pin}
pub use Rattle.machine_shape.specs.Shape.{is_port, is_table_pin, itself, parent_in, tap_child, tap_pin, tap_port, tap_table, turned}
unfoldable pub use Rattle.machine_shape.specs.Shape.{IsLine, IsPort, cross_at, crosses_of, ends_of, hextant_of, levels_of, line_at}
unfoldable pub use Rattle.machine_shape.specs.Shape.{line_position, lines_of, node_at, node_of, node_of_cross, nodes_of, own_ports_of}
unfoldable pub use Rattle.machine_shape.specs.Shape.{parent_of, pin_wire, pins_of, place_of, place_of_cross, port_at, ports_of, table_wire}
unfoldable pub use Rattle.machine_shape.specs.Shape.{tables_of, tap_at, tap_position, taps_of, way_to, way_to_table, wires_of}
pub use Rattle.machine_shape.specs.Limits.{HasZero, IsFirstPassed, IsFirstZero, IsShapeFault, IsSmallFault}
pub use Rattle.machine_shape.specs.Limits.{MakeShape, MakeSmall, amount_of, most_of_large, most_of_small}
unfoldable pub use Rattle.machine_shape.specs.Limits.{is_small}
pub use Rattle.machine_shape.specs.Bounds.{HasHighLimits}
unfoldable pub use Rattle.machine_shape.specs.Bounds.{most_closed, most_faults, most_repaired, most_text, most_ticks}
pub use Rattle.machine_shape.specs.Said.{meaning_of}
pub use Rattle.machine_shape.specs.Names.{inner_letters, numbered, part_name, place_name, port_letter, steps_name, way_name}
unfoldable pub use Rattle.machine_shape.specs.Names.{node_name, table_name, wire_name}
pub use Rattle.machine_shape.specs.Laws.{HasCrosses, HasHomes, HasMeanings, HasMeetings, HasNames, HasParents, HasTaps, IsNumbered}
pub use Rattle.machine_shape.specs.Laws.{IsNumberedAsTiny, IsTree, tiny}
pub use Rattle.machine_shape.specs.PartNames.{HasPartNames}
unfoldable pub use Rattle.machine_shape.specs.PartNames.{child_at}
pub use Rattle.machine_shape.specs.Rows.{HasRows}
unfoldable pub use Rattle.machine_shape.specs.Rows.{first_cross_of}
pub use Rattle.machine_shape.specs.Sites.{HasSites}
pub use Rattle.machine_shape.specs.Sums.{HasSums, sum_below}
pub use Rattle.machine_shape.specs.Kinds.{numbers_in, path_of}
pub use Rattle.machine_shape.specs.Bars.{FitsBelow, IsBarAt, IsBarFrom, IsNodeBar, tap_by}
pub use Rattle.machine_shape.specs.Weights.{Fits, IsStep, each_by, further, last, place_by, start_by, weights_at, weights_in}
pub use Rattle.machine_shape.specs.Reading.{IsRead, IsReadable, NoDot, way_text}
