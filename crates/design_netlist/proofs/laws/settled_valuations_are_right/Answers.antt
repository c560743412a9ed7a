use Rattle.design_netlist.proofs.RightLemmas.{settled_is_right}
use Rattle.design_netlist.proofs.laws.settled_valuations_are_right.Goals as goal

pub returns : goal.returns
returns c = λ d state vector base given is. settled_is_right d is state vector base given
