use Rattle.map_eval.proofs.Vocabulary.{◌∷◌, List, Bool, subst, Network, RowsFrom, NetworkState, RowsOn, value_in}
use Rattle.map_eval.proofs.eval.NetworkEval.step.Goals as goal

pub returns-clause-rows : goal.returns-clause-rows
returns-clause-rows c =
    let new = c.run_cycle.new.run in
    subst (λ (e : NetworkState). (vectors rows : List (List Bool)) → RowsOn (record { network = new.plan.network; given = new.state.values.items }) vectors rows → RowsOn e (c.args.vector.now ∷ vectors) (c.run_cycle.new.row ∷ rows)) c.self.view_is
    (λ vectors rows h. c.run_cycle.ensures.rows vectors rows (subst (λ (n : Network). RowsFrom n (value_in new.state.values.items) vectors rows) c.run_cycle.ensures.network h))
