use Rattle.machine_shape.proofs.Vocabulary.{◌≡◌, ◌≤◌, false, refl, sym, subst, Counts}
use Rattle.machine_shape.specs.Vocabulary.{levels_from, IsFull, is_small, size, wires_in, nodes_in, crosses_in, tables_in, IsNumberedAsTiny, tiny, levels_of, wires_of, crosses_of, nodes_of, tables_of, pins_of, way_to, way_to_table, node_at, place_of, place_of_cross, ports_of, lines_of, taps_of, pin_wire, table_wire, port_at, line_at, tap_at, cross_at, node_of_cross, tap_position, line_position, ends_of, node_of, hextant_of, parent_of}
use Rattle.machine_shape.proofs.laws.a_small_machine_is_numbered_so.Goals as goal

-- that the counts make a shape, and its numbers
abbrev Holds : Counts → Type 0
Holds c = (full : IsFull c) (tables : size tables_in (levels_from c) ≤ 65536) (wires : size wires_in (levels_from c) ≤ 1310720) (crosses : size crosses_in (levels_from c) ≤ 268435456)
    (nodes : size nodes_in (levels_from c) ≤ 1310720) (pins : is_small c ≡ false → c.pins ≤ 8192) →
    IsNumberedAsTiny (record { counts = c; full = full; few_tables = tables; few_wires = wires; few_crosses = crosses; few_nodes = nodes; few_pins = pins })

-- at the counts themselves everything computes
computes : Holds tiny
unfolding levels_of levels_from wires_of crosses_of nodes_of tables_of pins_of way_to way_to_table node_at place_of place_of_cross ports_of lines_of taps_of pin_wire table_wire port_at line_at tap_at cross_at node_of_cross tap_position line_position ends_of node_of hextant_of parent_of
computes full tables wires crosses nodes pins = record { wires = refl; nodes = refl; crosses = refl; root_line = refl; module_port = refl; module_line = refl; chip_port = refl; hextant_port = refl; hextant_line = refl; first_table = refl; last_pin = refl; root_cross = refl; module_cross = refl; chip_cross = refl; hextant_cross = refl; first_ends = refl; last_ends = refl; parent = refl; node = refl }

pub returns : goal.returns
returns c = λ m e. (subst Holds (sym e) computes) m.full m.few_tables m.few_wires m.few_crosses m.few_nodes m.few_pins
