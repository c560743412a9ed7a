use Rattle.machine_defects.proofs.Vocabulary.{◌≡◌, ◌++◌, map, written, those, entry_words, as_wire}
use Rattle.std.specs.FinSet as set
use Rattle.machine_defects.proofs.write.put_wires.Given as goal

abbrev pub invariant-wires : goal.invariant-wires
invariant-wires l = l.text.items ≡ l.fn.text.items ++ written (map (entry_words l.list.shape) (map as_wire (those (set.contains l.list.list.wires) l.w)))
