use Rattle.map_network.proofs.Vocabulary.{◌∙◌, DoesSame}
use Rattle.map_network.proofs.{PutLemmas.net, ReducedLemmas.if_ok_map, CompactLemmas.same_then, SpreadLemmas.spread_changed}
use Rattle.map_network.proofs.spread.spread_once.Goals as goal

pub without-requires : goal.without-requires
without-requires c =
    (spread_changed c.args.network c.in_ok-spread.spread.tables.items c.new.result c.new-2.result c.requires (c.in_ok-spread.ensures {u = tt}) c.new.ensures (c.new-2.ensures ∙ (c.in_ok-outputs.ensures {u = tt} ∙ c.as_slice.ensures))).network

pub returns : goal.returns
returns c =
    let n = c.args.network in
    let m = net n.inputs c.new.result c.new-2.result in
    let first : DoesSame n m = spread_changed n c.in_ok-spread.spread.tables.items c.new.result c.new-2.result c.requires (c.in_ok-spread.ensures {u = tt}) c.new.ensures (c.new-2.ensures ∙ (c.in_ok-outputs.ensures {u = tt} ∙ c.as_slice.ensures)) in
    if_ok_map c.without.result (λ x p. same_then n m x first p) c.without.ensures
