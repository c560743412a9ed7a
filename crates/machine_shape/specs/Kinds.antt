-- The kinds of numbers that the code walks by, and the ways that it walks.
use Rattle.std.specs.Prelude.{take}
use Rattle.machine_shape.specs.declared.way.Kind.{Kind, TheVariants.Wires, TheVariants.Nodes, TheVariants.Tables, TheVariants.Crosses}
use Rattle.machine_shape.specs.{declared.way.Way.Way, Walk.Own, Walk.Path, Walk.wires_in, Walk.nodes_in, Walk.tables_in, Walk.crosses_in}

-- how many numbers of the kind a node or table has of its own
abbrev pub numbers_in : Kind → Own
numbers_in Wires = wires_in
numbers_in Nodes = nodes_in
numbers_in Tables = tables_in
numbers_in Crosses = crosses_in

-- the steps of a way
abbrev pub path_of : Way → Path
path_of w = take w.len w.steps
