use Rattle.rig_port.proofs.Vocabulary.{◌≡◌, ◌<◌, ◌≤◌, ◌∙◌, take, get_or, refl, sym, ap, subst, arith, take-length, crosses_of, is_closed}
use Rattle.rig_port.proofs.Edited.{more_edits}
use Rattle.rig_port.proofs.Closings.{times, closed_at, only_more, closed_more, same_closed}
use Rattle.rig_port.proofs.edits.close_new.Goals as goal

pub close_once-requires : goal.close_once-requires
close_once-requires c =
    let x = get_or c.closed-closed.result.now c.closed.k (record { 0 = 0 }) in
    let closed = closed_at c.args.config.now.config c.closed-closed.result.now c.closed.k (record { 0 = 0 }) c.closed-closed.ensures c.closed-test.true in
    subst (λ m. x.0 < crosses_of m) (sym (c.closed.invariant.0 ∙ c.requires.shape)) (c.shape-shape.ensures.right.crosses x.0 closed)

pub closed-preserved : goal.closed-preserved
closed-preserved c =
    let x = get_or c.closed-closed.result.now c.closed.k (record { 0 = 0 }) in
    let closed = closed_at c.args.config.now.config c.closed-closed.result.now c.closed.k (record { 0 = 0 }) c.closed-closed.ensures c.closed-test.true in (
      c.in_ok-close_once.ensures.shape ∙ c.closed.invariant.0,
      more_edits c.args.set.now.config c.closed.set.config c.close_once.new.set.config c.args.line.now.items c.closed.line.items c.close_once.new.line.items
          c.closed.invariant.0 c.closed.invariant.1 c.in_ok-close_once.ensures.made,
      (λ y after. only_more c.closed.set.config c.args.config.now.config y x.0 closed (c.closed.invariant.2 y)
          (sym (ap (λ g. is_closed g y) c.in_ok-close_once.ensures.closed) ∙ after)),
      (λ y some. ap (λ g. is_closed g y) c.in_ok-close_once.ensures.closed
          ∙ closed_more c.closed.set.config c.closed-closed.result.now c.closed.k y x (record { 0 = 0 }) c.closed-test.true refl (c.closed.invariant.3 y) some),
    )

pub returns-clause-closed : goal.returns-clause-closed
returns-clause-closed c =
    let taken : take c.closed.k c.closed-closed.result.now ≡ c.closed-closed.result.now
    = ap (λ n. take n c.closed-closed.result.now) (omega (arith, c.closed-test.false, c.closed.auto.k-end)) ∙ take-length c.closed-closed.result.now in
    same_closed c.closed.set.config c.args.config.now.config c.closed-closed.result.now c.closed-closed.ensures c.closed.invariant.2
    (λ x some. c.closed.invariant.3 x (subst (λ l. 1 ≤ times x l) (sym taken) some))
