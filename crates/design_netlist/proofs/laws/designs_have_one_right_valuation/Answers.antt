use Rattle.design_netlist.proofs.RightLemmas.{one_right}
use Rattle.design_netlist.proofs.laws.designs_have_one_right_valuation.Goals as goal

pub returns : goal.returns
returns c = λ d state vector is len_state len_vector. one_right d is state vector len_vector len_state
