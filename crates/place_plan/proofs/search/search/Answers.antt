use Rattle.place_plan.proofs.Vocabulary.{◌≤◌, length, arith, common_steps}
use Rattle.place_plan.proofs.Stuck.{stuck}
use Rattle.place_plan.proofs.search.search.Goals as goal

pub returns-clause-found : goal.returns-clause-found
returns-clause-found c =
    let le : length c.loop-h.steps.items ≤ c.loop-h.h = grind (arith, common_steps) in
    stuck _ _ _ _ _ _ c.loop-h.invariant.trail c.loop-h.invariant.marks le c.loop-h.invariant.scanned
