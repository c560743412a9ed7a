use Rattle.diag_growth.proofs.Vocabulary.{◌≡◌, ◌<◌, ℕ, Some, slice_get, AreAllMarks, IsLooked, Support, ForEach}
use Rattle.diag_growth.proofs.SoFar.{HasLooked}
use Rattle.diag_growth.proofs.look.look_at.Given as goal

abbrev pub invariant-links : goal.invariant-links
invariant-links g l =
    let rig0 = (goal.Rig-dyn g (l.fn.rig.vtable, l.fn.rig.value)).rig_state l.fn.rig.value in
    let rig = (goal.Rig-dyn g (l.rig.vtable, l.rig.value)).rig_state l.rig.value in
    HasLooked rig0 rig l.fn.facts l.facts l.field l.fn.known l.known l.fn.marks l.marks
    (ForEach rig (λ told. AreAllMarks told l.fn.facts l.field l.fn.known.steps l.fn.marks → (i : ℕ) (b : Support) → i < l.j → slice_get l.links.items i ≡ Some b →
    IsLooked told l.facts l.field l.known.steps l.marks.barred l.place b.cross.0 b.wire.0))
