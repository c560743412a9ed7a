use Rattle.design_netlist.proofs.LaneLemmas.{not-bit}
use Rattle.design_equal.proofs.words.sign_word.Goals as goal

pub returns-then-negated : goal.returns-then-negated
returns-then-negated c = rw c.if-negated.true (λ lane ll. not-bit c.args.word lane c.ranges.word.fits ll)
