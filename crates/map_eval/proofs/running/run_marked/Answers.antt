use Rattle.map_eval.proofs.Vocabulary.{◌∙◌, ap, value_in}
use Rattle.map_eval.proofs.RunLemmas.{one_cycle}
use Rattle.map_eval.proofs.running.run_marked.Goals as goal

pub returns-clause-rows : goal.returns-clause-rows
returns-clause-rows c =
    one_cycle c.args.plan.now c.args.state.now c.settle-changes.new.state c.take.new.state c.args.vector.now c.show.new.row c.settle-changes.ensures.kept c.requires.inputs
    (c.settle-changes.ensures.before.inputs ∙ c.put_inputs.ensures.inputs) (λ t l. c.settle-changes.ensures.before.latched t l ∙ ap (λ vs. value_in vs t) c.put_inputs.ensures.values) c.settle-changes.ensures.settled c.show.ensures c.take.ensures.taken
