use Rattle.rig_simulated.proofs.Periods.{given_none, given_set, given_all}
use Rattle.rig_simulated.proofs.past.put_outputs.Goals as goal

pub gates-init : goal.gates-init
gates-init c = given_none c.args.gates.now c.args.outputs.now c.requires

pub gates-preserved : goal.gates-preserved
gates-preserved c = given_set c.gates.k c.args.gates.now c.gates.outputs _ c.gates.invariant c.gates-test.true

pub returns : goal.returns
returns c = given_all c.gates.k c.args.gates.now c.gates.outputs c.gates.invariant c.gates-test.false
