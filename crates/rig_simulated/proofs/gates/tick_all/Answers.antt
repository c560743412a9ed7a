use Rattle.std.proofs.Common.{◌<◌, ◌∙◌, List, set, length, sym, ap, refl, arith}
use Rattle.rig_simulated.proofs.Vocabulary.{false≢true, get_or_default, map_over_more, Gate, level_at, ticked}
use Rattle.rig_simulated.proofs.{Twins.unwritten, gates.tick_all.Goals.then-gate-gates, gates.tick_all.Goals.else-gate-gates}
use Rattle.rig_simulated.proofs.gates.tick_all.Goals as goal

pub gates-preserved : goal.gates-preserved
gates-preserved c =
    let xs : List Gate = c.args.gates.now in
    let ys : List Gate = c.gates.gates in
    let i = c.gates.i in
    let f = ticked c.args.faults.now.faults (level_at c.args.knots.now c.args.pins.now c.args.tables.now) in
    let inside : i < length ys = omega arith in
    elim c.if-gate-gates.branch [
      | then-gate-gates w ↦ record {
        next = w.gates-is ∙ ap (set ys i) c.ticked-gate.ensures ∙ map_over_more f xs ys i _ c.gates-test.true c.gates.invariant.next (get_or_default ys i _ _ inside);
        same = λ e. absurd (false≢true (sym e ∙ w.changed-is));
      }
      | else-gate-gates w ↦
          record {
            next = w.gates-is ∙ unwritten f (λ x. refl) xs ys i _ c.ticked-gate.result c.gates-test.true inside c.gates.invariant.next c.ticked-gate.ensures w.if-gate-gates.false;
            same = λ e. w.gates-is ∙ c.gates.invariant.same (sym w.changed-is ∙ e);
          }
    ]
