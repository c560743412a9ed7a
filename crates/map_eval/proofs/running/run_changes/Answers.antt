use Rattle.map_eval.proofs.Vocabulary.{◌∙◌, ◌∷◌, List, Bool, ap, length, subst, RowsFrom, value_in}
use Rattle.map_eval.proofs.{BusyLemmas.kept_shaped, StateLemmas.whole_items}
use Rattle.map_eval.proofs.running.run_changes.Goals as goal

pub returns-clause-run : goal.returns-clause-run
returns-clause-run c = (
    let same = c.run_marked-changes.ensures.due ∙ ap length c.deref_mut.ensures.value in
    record {
      plan = c.requires.run.plan;
      shaped = kept_shaped c.args.run.now.plan _ c.run_marked-changes.ensures.kept;
      kept = λ e. c.run_marked-changes.ensures.kept;
      due = ap length (whole_items c.args.run.now.due c.run_marked-changes.new.due same) ∙ same ∙ c.requires.run.due;
      busy = c.requires.run.busy;
    })

pub returns-clause-rows : goal.returns-clause-rows
returns-clause-rows c = λ vectors rows h.
    subst (λ (values : List Bool). RowsFrom c.args.run.now.plan.network (value_in values) (c.args.vector.now ∷ vectors) (c.run_marked-changes.new.row ∷ rows)) c.freshen.ensures.values (c.run_marked-changes.ensures.rows vectors rows h)
