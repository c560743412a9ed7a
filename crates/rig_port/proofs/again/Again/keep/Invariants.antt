use Rattle.rig_port.proofs.Vocabulary.{◌≡◌, List, ◌++◌, true, take, Pins, HasRows, IsOf}
use Rattle.rig_port.proofs.again.Again.keep.Given as goal

abbrev pub invariant-cycles : goal.invariant-cycles
invariant-cycles l = record {
  rows : HasRows l.fn.pins l.self;
  number : l.self.number ≡ l.fn.self.number;
  whole : l.self.whole ≡ l.fn.self.whole;
  kept : (before after : List Pins) → IsOf l.fn.self before after → IsOf l.self (before ++ take l.k l.drives) (after ++ take l.k l.readings);
  covers : l.self.covers ≡ true → l.fn.self.covers ≡ true;
}
