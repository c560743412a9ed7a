use Rattle.place_plan.proofs.Vocabulary.{◌≡◌, ◌++◌, [], ◌∷◌, ap, ◌∙◌, line_at}
use Rattle.place_plan.proofs.{Moves.none_of, Picked.pick_none, Picked.pick_some}
use Rattle.place_plan.proofs.assign.holds.Goals as goal
use Rattle.place_plan.proofs.assign.holds.Goals.{in-Some+in_ok-push, in_default}

pub loop-j-preserved : goal.loop-j-preserved
loop-j-preserved c = elim c.match-owners-j.branch [
  | in-Some+in_ok-push w ↦
      let e : c.match-owners-j.holds.items ≡ c.loop-j.holds.items ++ record { ask = w.in-Some.ask; line = line_at c.args.lines.now c.loop-j.j } ∷ [] = ap (λ v. v.items) w.holds-is ∙ (w.in_ok-push.ensures {u = tt}).items in
      rw e (pick_some _ _ _ _ _ w.in-Some.is c.loop-j.invariant)
  | in_default w ↦ rw (ap (λ v. v.items) w.holds-is) (pick_none _ _ _ _ (none_of _ w.in_default.not-Some) c.loop-j.invariant)
]
