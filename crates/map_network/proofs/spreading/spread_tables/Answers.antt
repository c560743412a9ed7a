use Rattle.map_network.proofs.Vocabulary.{◌∙◌, sym, subst, arith, Spreads, begins}
use Rattle.map_network.proofs.SpreadLemmas.{spreads_on, spreads_length}
use Rattle.map_network.proofs.spreading.spread_tables.Goals as goal

pub most-init : goal.most-init
most-init c = subst (λ ts. Spreads c.args.network.now.tables ts) (sym (c.in_ok-tables.ensures {u = tt} ∙ c.as_slice.ensures)) begins

pub run-requires : goal.run-requires
run-requires c =
    let e = spreads_length c.most.invariant in
    let l = c.requires.few in
    omega arith

pub most-preserved : goal.most-preserved
most-preserved c = spreads_on c.most.invariant (c.in_ok-run.ensures {u = tt})
