use Rattle.map_network.proofs.ValuationLemmas.{one_rows}
use Rattle.map_network.proofs.laws.networks_have_one_list_of_rows.Goals as goal

pub returns : goal.returns
returns c = λ n vectors is all. one_rows n is vectors all
