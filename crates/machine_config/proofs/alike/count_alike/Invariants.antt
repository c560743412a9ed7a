use Rattle.std.proofs.Common.{◌≡◌, ◌*◌, take}
use Rattle.machine_config.proofs.alike.count_alike.Given as goal

abbrev pub invariant-parts : goal.invariant-parts
invariant-parts l = take (l.part * 256) l.one ≡ take (l.part * 256) l.other
