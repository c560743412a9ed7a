use Rattle.example_parts.proofs.Vocabulary.{◌≡◌, AreFound}
use Rattle.example_parts.proofs.crossbars.lines.try_lines.Given as goal

abbrev pub invariant-lines : goal.invariant-lines
invariant-lines g l =
    let rig0 = (goal.Rig-dyn g (l.fn.rig.vtable, l.fn.rig.value)).rig_state l.fn.rig.value in
    let rig = (goal.Rig-dyn g (l.rig.vtable, l.rig.value)).rig_state l.rig.value in
    record {
      machine : rig.machine ≡ rig0.machine;
      shape : l.facts.shape ≡ l.fn.facts.shape;
      found : AreFound rig l.facts l.walk.known l.walk.found.items;
    }
