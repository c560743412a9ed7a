use Rattle.map_text.specs.Remapped.{MayStandFor}
use Rattle.map_text.proofs.rounds.by_ways.Given as goal

abbrev pub invariant-ways : goal.invariant-ways
invariant-ways l = MayStandFor l.netlist l.text l.best
