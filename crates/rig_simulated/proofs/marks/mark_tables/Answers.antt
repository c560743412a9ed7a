use Rattle.rig_simulated.proofs.Vocabulary.{◌+◌, true, sym, subst, not-true, not-false, IsPulledBy, AreMarkedToo}
use Rattle.rig_simulated.proofs.Marking.{none_marked, no_pull, marked_more, marked_same, pull_here, pull_kept, pull_last, pull_not}
use Rattle.rig_simulated.proofs.marks.mark_tables.Goals as goal
use Rattle.rig_simulated.proofs.marks.mark_tables.Goals.{then-not-gate, else-not-gate}

pub gates-init : goal.gates-init
gates-init c = none_marked _ _ (no_pull c.args.gates.now)

pub gates-preserved : goal.gates-preserved
gates-preserved c = elim c.if-not-gate.branch [
  | then-not-gate w ↦
      let here_ = c.requires c.gates.i _ c.gates-test.true in
      subst (λ l. AreMarkedToo c.args.low.now l (IsPulledBy c.args.gates.now (c.gates.i + 1))) (sym w.low-is)
      (marked_more c.args.low.now c.gates.low _ (IsPulledBy c.args.gates.now c.gates.i) (IsPulledBy c.args.gates.now (c.gates.i + 1)) c.gates.invariant here_
      (pull_here c.args.gates.now c.gates.i _ c.gates-test.true (not-true _ w.if-not-gate.true)) (pull_kept c.args.gates.now c.gates.i) (pull_last c.args.gates.now c.gates.i _))
  | else-not-gate w ↦
      subst (λ l. AreMarkedToo c.args.low.now l (IsPulledBy c.args.gates.now (c.gates.i + 1))) (sym w.low-is)
      (marked_same c.args.low.now c.gates.low (IsPulledBy c.args.gates.now c.gates.i) (IsPulledBy c.args.gates.now (c.gates.i + 1)) c.gates.invariant
      (pull_kept c.args.gates.now c.gates.i) (pull_not c.args.gates.now c.gates.i _ (not-false _ w.if-not-gate.false)))
]
