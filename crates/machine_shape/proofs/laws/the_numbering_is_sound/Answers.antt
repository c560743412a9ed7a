use Rattle.machine_shape.proofs.Vocabulary.{length, refl, way_to}
use Rattle.machine_shape.proofs.Numbering as wires
use Rattle.machine_shape.proofs.Crossings as crossings
use Rattle.machine_shape.proofs.Tapped as tapped
use Rattle.machine_shape.proofs.Parents as parents
use Rattle.machine_shape.proofs.Meanings as meanings
use Rattle.machine_shape.proofs.laws.the_numbering_is_sound.Goals as goal

pub returns-clause-numbered : goal.returns-clause-numbered
returns-clause-numbered c = λ m. record {
  ends = crossings.first_below m;
  pins = λ k h. wires.wire_below m _ _ (wires.pin_is m k h);
  tables = λ t k h b. wires.wire_below m _ _ (wires.table_pin_is m t k h b);
  pins_apart = λ k l _ _ e. wires.pins_apart m k l e;
  tables_apart = wires.tables_apart m;
  no_pin_is_table = wires.no_pin_is_table m;
}

pub returns-clause-tree : goal.returns-clause-tree
returns-clause-tree c = λ m. record {
  depth = λ k. length (way_to m k);
  deeper = wires.deeper m;
  line_node = λ k w h. let l = wires.line_has m k w h in wires.node_of-way m k w _ l.1 l.3;
  port_node = λ k w h. let p = wires.port_has m k w h in wires.node_of-way m k w _ p.1 p.4;
  no_line_is_port = wires.no_line_is_port m;
  no_pin_is_line = λ k a h. wires.no_pin_is_line m k a _ h refl;
  no_pin_is_port = λ k a h. wires.no_pin_is_port m k a _ h refl;
  no_table_is_line = λ t k a h b. wires.no_table_is_line m t k a _ h b refl;
  no_table_is_port = λ t k a h b. wires.no_table_is_port m t k a _ h b refl;
  below = λ w h. wires.all_below_root m _ (wires.node_of_below m w h);
}

pub returns-clause-meanings : goal.returns-clause-meanings
returns-clause-meanings c = λ m. record {
  within = meanings.meant_below m;
  some = meanings.meant m;
  one = meanings.one_meaning m;
}

pub returns-clause-parents : goal.returns-clause-parents
returns-clause-parents c = λ m. record {
  root = parents.parent_of-root m;
  others = parents.has_one m;
  before = λ k n e. parents.before m k n e (parents.parent_below m k n e);
  within = tapped.has_parent m;
  node_within = wires.node_of_below m;
  hextant_within = parents.hextant_below m;
  table_node = parents.node_of-table m;
  pin_node = parents.node_of-pin m;
}
