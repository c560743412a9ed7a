use Rattle.std.proofs.Common.{◌≡◌, ◌∙◌, ℕ, true, false, None, List, sym, ap, subst, is_some}
use Rattle.rig_simulated.proofs.Vocabulary.{ends_of, stuck_cross, Closed, AreClosedBy, HasClosed}
use Rattle.rig_simulated.proofs.Undoing.{closed_stuck, closed_joined, no_value}
use Rattle.rig_simulated.proofs.closing.close_next.Goals as goal

pub returns-then-has-clause-closed : goal.returns-then-has-clause-closed
returns-then-has-clause-closed c =
    let m = c.args.faults.now.shape in
    let f = c.args.faults.now.faults in
    let stuck : is_some (stuck_cross f c.args.cross.0) ≡ true = sym (c.requires.stuck.each c.args.cross.0 c.requires.cross) ∙ sym c.has.ensures ∙ c.if-has.true in
    subst (λ (l : List Closed). AreClosedBy m f l c.args.classes.now.knots.items) (sym c.in_ok-push.ensures.items)
    (closed_stuck m f c.args.classes.now.closed.items c.args.classes.now.knots.items c.args.cross c.requires.closed stuck)

pub returns-clause-closed : goal.returns-clause-closed
returns-clause-closed c =
    let m = c.args.faults.now.shape in
    let f = c.args.faults.now.faults in
    let x = c.args.cross.0 in
    let free : stuck_cross f x ≡ None = no_value (stuck_cross f x) (sym (c.requires.stuck.each x c.requires.cross) ∙ sym c.has.ensures ∙ c.if-has.false) in
    closed_joined m f c.args.cross c.args.classes.now c.close.new.classes c.requires.closed free
    (subst (λ (e : ℕ × ℕ). HasClosed c.args.cross e.0 e.1 c.args.classes.now c.close.new.classes) (c.ends.ensures.ends ∙ ap (λ s. ends_of s x) c.shape.ensures.shape) c.in_ok-close.ensures.joined)
