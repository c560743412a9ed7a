use Rattle.design_netlist.proofs.Vocabulary.{length, arith, cover_line, IsOnCycle}
use Rattle.design_netlist.proofs.OrderLemmas.{first_more, first_all}
use Rattle.design_netlist.proofs.cycles.first_on_cycle.Goals as goal

pub returns : goal.returns
returns c = first_all (cover_line c.args.covers.now) (IsOnCycle c.args.covers.now) (length c.args.covers.now) c.covers.place c.covers.found (omega arith) c.covers.invariant

pub covers-preserved : goal.covers-preserved
covers-preserved c = rw c.chosen-found.ensures (first_more (cover_line c.args.covers.now) (IsOnCycle c.args.covers.now) c.covers.place c.covers.found c.is_on_cycle-cyclic.result c.is_before-before.result c.covers.invariant c.is_on_cycle-cyclic.ensures.0 c.is_on_cycle-cyclic.ensures.1 c.is_before-before.ensures)
