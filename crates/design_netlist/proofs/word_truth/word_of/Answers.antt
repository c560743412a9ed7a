use Rattle.std.proofs.Common.{refl}
use Rattle.design_netlist.proofs.LaneLemmas.{not-bit}
use Rattle.design_netlist.proofs.word_truth.word_of.Goals as goal

pub returns-then-off : goal.returns-then-off
returns-then-off c = rw c.if-off.true (λ j lj. not-bit c.args.word j c.ranges.word.fits lj)

pub returns-else-off : goal.returns-else-off
returns-else-off c = rw c.if-off.false (λ j lj. refl)
