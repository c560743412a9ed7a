use Rattle.map_text.specs.Remapped.{MayStandFor}
use Rattle.map_text.proofs.rounds.remapped.Given as goal

abbrev pub invariant-rounds : goal.invariant-rounds
invariant-rounds l = MayStandFor l.netlist l.text l.best
