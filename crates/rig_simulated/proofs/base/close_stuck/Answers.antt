use Rattle.std.proofs.Common.{◌≡◌, ◌≤◌, ◌+◌, ℕ, true, false, length, subst, ap, ◌∙◌, sym, arith, unwrap_or}
use Rattle.rig_simulated.proofs.Vocabulary.{crosses_of, ends_of, stuck_wire, AreTied, HasLink, stuck_net, base_most}
use Rattle.rig_simulated.proofs.{Joining.tied_alike, Links.stuck_more, Links.not_stuck_more, Links.all_stuck}
use Rattle.rig_simulated.proofs.base.close_stuck.Goals as goal
use Rattle.rig_simulated.proofs.base.close_stuck.Goals.{then-unwrap_or, else-unwrap_or}

pub crosses-preserved : goal.crosses-preserved
crosses-preserved c = elim c.if-unwrap_or.branch [
  | then-unwrap_or w ↦
      let link = stuck_more c.args.faults.now.shape c.args.faults.now.faults c.crosses.x (sym (ap (λ o. unwrap_or o false) c.cross_stuck.ensures) ∙ sym c.unwrap_or.ensures ∙ w.if-unwrap_or.true) in
      let sum : 16777216 + c.crosses.x + 1 ≡ 16777216 + (c.crosses.x + 1) = omega arith in
      record {
        len = ap length w.knots-is ∙ w.join.ensures.len ∙ c.crosses.invariant.len;
        tied = (rw w.knots-is (subst (AreTied (stuck_net c.args.faults.now.shape c.args.faults.now.faults (c.crosses.x + 1)) (stuck_wire c.args.faults.now.faults) w.join.new.knots) sum (w.join.ensures.joined (stuck_net c.args.faults.now.shape c.args.faults.now.faults c.crosses.x) (stuck_net c.args.faults.now.shape c.args.faults.now.faults (c.crosses.x + 1)) (stuck_wire c.args.faults.now.faults) (16777216 + c.crosses.x) c.crosses.invariant.tied
            (subst (λ (e : ℕ × ℕ). HasLink (stuck_net c.args.faults.now.shape c.args.faults.now.faults c.crosses.x) (stuck_net c.args.faults.now.shape c.args.faults.now.faults (c.crosses.x + 1)) e.0 e.1) (sym (w.ends.ensures.ends ∙ ap (λ s. ends_of s c.crosses.x) c.shape-shape.ensures.shape)) link))));
      }
  | else-unwrap_or w ↦
      let same = not_stuck_more c.args.faults.now.shape c.args.faults.now.faults c.crosses.x (sym (ap (λ o. unwrap_or o false) c.cross_stuck.ensures) ∙ sym c.unwrap_or.ensures ∙ w.if-unwrap_or.false) in
      record {
        len = ap length w.knots-is ∙ c.crosses.invariant.len;
        tied = (rw w.knots-is (tied_alike (16777216 + (c.crosses.x + 1)) same (omega arith) c.crosses.invariant.tied));
      }
]

pub returns : goal.returns
returns c = record {
  len = c.crosses.invariant.len ∙ c.requires.len;
  tied =
      let far : crosses_of c.args.faults.now.shape ≤ c.crosses.x = (let same : crosses_of c.shape-shape.result ≡ crosses_of c.args.faults.now.shape = ap crosses_of c.shape-shape.ensures.shape in omega (arith, c.crosses-x-end.ensures.crosses, same)) in
      tied_alike base_most (all_stuck c.args.faults.now.shape c.args.faults.now.faults c.shape-shape.ensures.kept.faults c.crosses.x far) (omega (arith, c.crosses-x-end.ensures.few)) c.crosses.invariant.tied;
}
