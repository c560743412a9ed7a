use Rattle.diag_machine.proofs.Vocabulary.{subst, IfSome, Wire, IsKnownFoot}
use Rattle.diag_machine.proofs.lost.has_feet.Goals as goal

pub returns-then-other-line : goal.returns-then-other-line
returns-then-other-line c =
    let first = subst (λ o. IfSome o (λ (w : Wire). IsKnownFoot c.args.facts.now c.args.known.now.steps c.args.pin.0 w.0)) c.in-Some.is c.lines.invariant in
    λ yes. record { one = c.in-Some.other.0; two = c.line-line.result.0; different = c.if-other-line.true; first = first; second = c.is_foot.ensures c.if-not-is_foot.false }
