use Rattle.std.proofs.Common.{◌≡◌, take}
use Rattle.map_network.proofs.copying.copied_ins.Given as goal

abbrev pub invariant-ins : goal.invariant-ins
invariant-ins l = l.sources ≡ take l.k l.ins
