use Rattle.design_netlist.proofs.LaneLemmas.{not-bit, all-bits}
use Rattle.design_netlist.proofs.word_truth.fits_word.Goals as goal

pub returns-in-Zero : goal.returns-in-Zero
returns-in-Zero c = rw c.in-Zero.is (λ j lj. not-bit c.args.word j c.ranges.word.fits lj)

pub returns-in-Any : goal.returns-in-Any
returns-in-Any c = rw c.in-Any.is (λ j lj. all-bits j lj)
