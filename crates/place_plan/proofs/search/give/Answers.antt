use Rattle.place_plan.proofs.Vocabulary.{◌≡◌, ◌++◌, ℕ, [], ◌∷◌, None, Option, MatchOption, sym, subst, rules, Contains}
use Rattle.place_plan.specs.Vocabulary.{serves_by, owner_at, step_at, IsPartial, IsTrail, IsFree, IsStuck, IsShifted}
use Rattle.place_plan.proofs.Moves.{place}
use Rattle.place_plan.proofs.search.give.Goals as goal

pub returns-then-serves_at-clause-given : goal.returns-then-serves_at-clause-given
returns-then-serves_at-clause-given c = λ done is new.
    let none : owner_at c.args.owners.now c.args.ask ≡ None = search rules in
    place _ _ done _ c.args.ask _ is none c.if-ask-lines.true (sym (c.if-serves_at.ensures {u = tt})) new

pub returns-in-Some-clause-given : goal.returns-in-Some-clause-given
returns-in-Some-clause-given c =
    let serves = serves_by c.args.defects.now c.args.asks.now in
    let lines = c.args.lines.now in
    let owners = c.args.owners.now in
    let steps = c.in_ok-found.found.steps.items in
    let from : ℕ = c.in_ok-found.found.from in
    let trail : IsTrail serves lines owners steps = c.in_ok-found.ensures.trail in
    let found : MatchOption c.in_ok-found.found.line (IsStuck serves lines steps) (λ j. IsFree serves lines owners steps from j) = c.in_ok-found.ensures.found in
    let free : IsFree serves lines owners steps from c.in-Some.line = subst (λ (o : Option ℕ). MatchOption o (IsStuck serves lines steps) (λ j. IsFree serves lines owners steps from j)) c.in-Some.is found in
    let first : (step_at steps 0).ask ≡ c.args.ask = c.in_ok-found.ensures.first in
    let moved : IsShifted steps from c.in-Some.line owners c.shift.new.owners = subst (λ z. IsShifted z from c.in-Some.line owners c.shift.new.owners) c.deref.ensures.value c.shift.ensures in
    λ done partial new. subst (λ (n : ℕ). IsPartial serves lines (done ++ n ∷ []) c.shift.new.owners) first
    (moved.1 serves lines done trail free c.requires.sized partial (subst (λ (n : ℕ). ¬ Contains done n) (sym first) new))
