use Rattle.place_plan.proofs.Vocabulary.{◌==◌, ◌++◌, ℕ, List, [], ◌∷◌, sym, ap, ◌∙◌, list_any}
use Rattle.place_plan.proofs.Ranges.{filter_yes, filter_not}
use Rattle.place_plan.proofs.assign.reached_asks.Goals as goal
use Rattle.place_plan.proofs.assign.reached_asks.Goals.{then-is_reached+in_ok-push, else-is_reached}

pub loop-k-preserved : goal.loop-k-preserved
loop-k-preserved c = elim c.if-is_reached.branch [
  | then-is_reached+in_ok-push w ↦ ap (λ v. v.items) w.set-is ∙ (w.in_ok-push.ensures {u = tt}).items ∙ ap (λ (z : List ℕ). z ++ c.loop-k.k ∷ []) c.loop-k.invariant ∙ sym (filter_yes (λ (n : ℕ). list_any (λ s. s.ask == n) c.args.steps.now) c.loop-k.k (sym c.is_reached.ensures ∙ w.if-is_reached.true))
  | else-is_reached w ↦ ap (λ v. v.items) w.set-is ∙ c.loop-k.invariant ∙ sym (filter_not (λ (n : ℕ). list_any (λ s. s.ask == n) c.args.steps.now) c.loop-k.k (sym c.is_reached.ensures ∙ w.if-is_reached.false))
]
