use Rattle.design_eval.proofs.SmallLemmas.{first-wires}
use Rattle.design_eval.proofs.smalls.first_wires.Goals as goal

pub returns : goal.returns
returns c = first-wires c.args.wires.now c.told-wires
