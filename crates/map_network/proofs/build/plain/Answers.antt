use Rattle.map_network.proofs.Vocabulary.{◌≡◌, ◌∙◌, ap, sym, subst, IsNetwork, plain_network}
use Rattle.map_network.proofs.{NetworkLemmas.network, RowLemmas.has_rows}
use Rattle.map_network.proofs.build.plain.Goals as goal

pub returns-clause-network : goal.returns-clause-network
returns-clause-network c =
    let e : c.in_ok-network.network ≡ plain_network c.args.netlist.now = (c.in_ok-network.ensures {u = tt}) ∙ ap plain_network c.parts.ensures.parts in
    subst IsNetwork (sym e) (network c.args.netlist.now c.parts.ensures.checked)

pub returns-clause-rows : goal.returns-clause-rows
returns-clause-rows c =
    let e : c.in_ok-network.network ≡ plain_network c.args.netlist.now = (c.in_ok-network.ensures {u = tt}) ∙ ap plain_network c.parts.ensures.parts in
    has_rows c.args.netlist.now c.parts.ensures.checked c.in_ok-network.network e
