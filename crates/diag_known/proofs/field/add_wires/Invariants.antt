use Rattle.diag_known.specs.Gains.{Gets, IsWireBefore}
use Rattle.diag_known.proofs.field.add_wires.Given as goal

abbrev pub invariant-wires : goal.invariant-wires
invariant-wires l = Gets (IsWireBefore l.wires.items l.j) l.j l.initial.marks l.marks
