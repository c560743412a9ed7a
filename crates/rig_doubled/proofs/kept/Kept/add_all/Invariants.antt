use Rattle.rig_doubled.proofs.Vocabulary.{◌≡◌, List, ◌++◌, take, Pins, IsRoomy, IsKept}
use Rattle.rig_doubled.proofs.kept.Kept.add_all.Given as goal

abbrev pub invariant-cycles : goal.invariant-cycles
invariant-cycles l = record {
  config : l.self.config ≡ l.fn.self.config;
  roomy : IsRoomy l.self;
  kept : (before after : List Pins) → IsKept l.fn.self before after → IsKept l.self (before ++ take l.k l.drives) (after ++ take l.k l.readings);
}
