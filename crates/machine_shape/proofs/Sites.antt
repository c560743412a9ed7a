-- What the levels of a shape are, and where its numbers are.
use Rattle.machine_shape.proofs.Vocabulary.{◌<◌, ◌^◌, arith, Shape, Kind, AreFull, numbers_in, size, levels_of}
use Rattle.machine_shape.specs.declared.way.Kind.TheVariants.{Wires, Nodes, Tables, Crosses}

pub full_of : (m : Shape) → AreFull (levels_of m)
unfolding levels_of
full_of m = m.full

pub small_of : (m : Shape) (kind : Kind) → size (numbers_in kind) (levels_of m) < 2 ^ 32
unfolding levels_of
small_of m Wires = let f = m.few_wires in omega arith
small_of m Nodes = let f = m.few_nodes in omega arith
small_of m Tables = let f = m.few_tables in omega arith
small_of m Crosses = let f = m.few_crosses in omega arith
