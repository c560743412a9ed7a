use Rattle.diag_growth.proofs.Vocabulary.{◌≤◌, ◌-◌, length, wires_of, IsGrown, ForEach, AreAllMarks}
use Rattle.diag_growth.proofs.SoFar.{HasLooked}
use Rattle.diag_growth.proofs.rounds.look_on.Given as goal

abbrev pub invariant-places : goal.invariant-places
invariant-places g l =
    let rig0 = (goal.Rig-dyn g (l.fn.rig.vtable, l.fn.rig.value)).rig_state l.fn.rig.value in
    let rig = (goal.Rig-dyn g (l.rig.vtable, l.rig.value)).rig_state l.rig.value in
    HasLooked rig0 rig l.fn.facts l.facts l.field l.fn.known l.known l.fn.marks l.marks
    ((l.place ≤ length l.known.steps) × ForEach rig (λ told. AreAllMarks told l.fn.facts l.field l.fn.known.steps l.fn.marks → IsGrown told l.fn.facts l.field l.fn.known.steps l.fn.marks.barred l.from →
    IsGrown told l.facts l.field l.known.steps l.marks.barred l.place))

abbrev pub decreases-places : goal.decreases-places
decreases-places g l = wires_of l.facts.shape - l.place
