use Rattle.diag_growth.proofs.Vocabulary.{◌≤◌, ◌+◌, ◌*◌, take, Advances, AddsOnlyTableFacts, AreAllWithout, fresh_tables, ForEach}
use Rattle.diag_growth.proofs.Testing.{AreTested}
use Rattle.diag_growth.proofs.tables.test_each.Given as goal

abbrev pub invariant-tables : goal.invariant-tables
invariant-tables g l =
    let rig0 = (goal.Rig-dyn g (l.fn.rig.vtable, l.fn.rig.value)).rig_state l.fn.rig.value in
    let rig = (goal.Rig-dyn g (l.rig.vtable, l.rig.value)).rig_state l.rig.value in
    record {
      advances : Advances rig0 rig l.fn.facts l.facts;
      only : AddsOnlyTableFacts l.fn.facts l.facts;
      tested_each : ForEach rig (λ told. AreTested told l.fn.facts l.facts l.known.steps l.tables l.i);
      without : AreAllWithout l.facts l.known.steps l.without.hextant.0 l.without.known;
      loads : rig.loads ≤ rig0.loads + 130 * fresh_tables l.fn.facts (take l.i l.tables);
    }
