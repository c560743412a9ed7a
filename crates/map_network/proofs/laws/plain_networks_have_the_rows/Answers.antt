use Rattle.map_network.proofs.Vocabulary.{refl, plain_network}
use Rattle.map_network.proofs.{NetworkLemmas.network, RowLemmas.has_rows}
use Rattle.map_network.proofs.laws.plain_networks_have_the_rows.Goals as goal

pub returns : goal.returns
returns c = record { network = λ d is. network d is; rows = λ d is. has_rows d is (plain_network d) refl }
