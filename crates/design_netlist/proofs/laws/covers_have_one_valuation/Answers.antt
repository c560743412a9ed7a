use Rattle.design_netlist.proofs.ValuationLemmas.{one_valuation}
use Rattle.design_netlist.proofs.laws.covers_have_one_valuation.Goals as goal

pub returns : goal.returns
returns c = λ covers base apart acyclic. one_valuation covers apart acyclic base
