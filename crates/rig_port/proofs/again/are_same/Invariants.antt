use Rattle.std.proofs.Common.{◌≡◌, take}
use Rattle.rig_port.proofs.again.are_same.Given as goal

abbrev pub invariant-rows : goal.invariant-rows
invariant-rows l = take l.k l.rows ≡ take l.k l.others
