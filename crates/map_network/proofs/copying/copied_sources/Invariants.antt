use Rattle.std.proofs.Common.{◌≡◌, take}
use Rattle.map_network.proofs.copying.copied_sources.Given as goal

abbrev pub invariant-sources : goal.invariant-sources
invariant-sources l = l.copies.items ≡ take l.k l.sources
