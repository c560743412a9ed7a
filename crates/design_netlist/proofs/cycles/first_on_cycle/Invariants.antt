use Rattle.design_netlist.specs.Vocabulary.{IsFirst, cover_line, IsOnCycle}
use Rattle.design_netlist.proofs.cycles.first_on_cycle.Given as goal

abbrev pub invariant-covers : goal.invariant-covers
invariant-covers l = IsFirst (cover_line l.covers) l.place (IsOnCycle l.covers) l.found
