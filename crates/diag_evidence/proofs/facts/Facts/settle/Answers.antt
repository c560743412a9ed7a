use Rattle.diag_evidence.proofs.Vocabulary.{◌≡◌, ◌<◌, ℕ, Option, IfSome, length, subst, arith, wires_of}
use Rattle.diag_evidence.proofs.KeptLemmas.{more_itself}
use Rattle.diag_evidence.proofs.Keeping.{settles, settles_not, settles_none, more_settled, holds_settled}
use Rattle.diag_evidence.proofs.facts.Facts.settle.Goals as goal

pub returns-in_default-clause-refused : goal.returns-in_default-clause-refused
returns-in_default-clause-refused c = rw (← c.self.view_is) (λ e can. settles_none _ c.in_default.is can)

pub returns-in_default-clause-more : goal.returns-in_default-clause-more
returns-in_default-clause-more c = rw (← c.self.view_is) (more_itself _)

pub returns-in_default-clause-explained : goal.returns-in_default-clause-explained
returns-in_default-clause-explained c = rw (← c.self.view_is) (λ f h. h)

pub returns-then-not-has_all-clause-refused : goal.returns-then-not-has_all-clause-refused
returns-then-not-has_all-clause-refused c =
    let n = c.has_all.ensures.no c.if-not-has_all.true in
    rw (← c.self.view_is) (λ e can. settles_not _ c.in-Some.wire n.0 c.in-Some.is n.1 n.2 n.3 can)

pub returns-then-not-has_all-clause-more : goal.returns-then-not-has_all-clause-more
returns-then-not-has_all-clause-more c = rw (← c.self.view_is) (more_itself _)

pub returns-then-not-has_all-clause-explained : goal.returns-then-not-has_all-clause-explained
returns-then-not-has_all-clause-explained c = rw (← c.self.view_is) (λ f h. h)

pub insert-requires : goal.insert-requires
insert-requires c =
    let w = subst (λ (o : Option ℕ). IfSome o (λ w. w < wires_of c.self.inside.shape)) c.in-Some.is c.self.invariant.0.trial in
    let l = c.self.invariant.0.apart in
    omega (arith, w, l)

pub returns-clause-settled : goal.returns-clause-settled
returns-clause-settled c =
    let w = subst (λ (o : Option ℕ). IfSome o (λ w. w < wires_of c.self.inside.shape)) c.in-Some.is c.self.invariant.0.trial in
    let l = c.self.invariant.0.apart in
    rw (← c.self.view_is, c.insert.ensures) (λ e. settles _ c.in-Some.wire c.in-Some.is (omega (arith, w, l)) (c.has_all.ensures.yes c.if-not-has_all.false))

pub returns-clause-more : goal.returns-clause-more
returns-clause-more c =
    let w = subst (λ (o : Option ℕ). IfSome o (λ w. w < wires_of c.self.inside.shape)) c.in-Some.is c.self.invariant.0.trial in
    let l = c.self.invariant.0.apart in
    rw (← c.self.view_is, c.insert.ensures) (more_settled (settles _ c.in-Some.wire c.in-Some.is (omega (arith, w, l)) (c.has_all.ensures.yes c.if-not-has_all.false)))

pub returns-clause-explained : goal.returns-clause-explained
returns-clause-explained c =
    let w = subst (λ (o : Option ℕ). IfSome o (λ w. w < wires_of c.self.inside.shape)) c.in-Some.is c.self.invariant.0.trial in
    let l = c.self.invariant.0.apart in
    rw (← c.self.view_is, c.insert.ensures) (holds_settled (settles _ c.in-Some.wire c.in-Some.is (omega (arith, w, l)) (c.has_all.ensures.yes c.if-not-has_all.false)))
