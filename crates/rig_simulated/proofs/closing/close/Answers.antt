use Rattle.std.proofs.Common.{rules, ◌≡◌, ◌<◌, List, ℕ, length, refl, sym, subst}
use Rattle.rig_simulated.proofs.Vocabulary.{with_items_is, with_items, ClassNode, knot_at, HasRoots, IsHung, IsTieOf, IsWithinKnots}
use Rattle.rig_simulated.proofs.Undoing.{closed_within, closed_tied}
use Rattle.rig_simulated.proofs.closing.close.Goals as goal

pub returns-then-root-other-clause-joined : goal.returns-then-root-other-clause-joined
returns-then-root-other-clause-joined c =
    let r = c.root_of-root.result in
    let o = c.root_of-other.result in
    closed_within c.args.cross c.args.a c.args.b c.args.classes.now _ r o
    (subst (λ (k : List ClassNode). (most : ℕ) (root : ℕ → ℕ) → HasRoots k most root → r ≡ root c.args.a) c.deref.ensures.value c.root_of-root.ensures.root)
    (subst (λ (k : List ClassNode). (most : ℕ) (root : ℕ → ℕ) → HasRoots k most root → o ≡ root c.args.b) c.deref-2.ensures.value c.root_of-other.ensures.root)
    c.if-root-other.true c.in_ok-push.ensures.items refl

pub returns-clause-joined : goal.returns-clause-joined
returns-clause-joined c =
    let r = c.root_of-root.result in
    let o = c.root_of-other.result in
    let tie = c.tie_of-tie.result in
    let ks = c.args.classes.now.knots.items in
    let same : (with_items c.args.classes.now.knots c.hang.new.knots).items ≡ c.hang.new.knots = with_items_is c.args.classes.now.knots c.hang.new.knots (search rules) in
    closed_tied c.args.cross c.args.a c.args.b c.args.classes.now _ r o
    (subst (λ (k : List ClassNode). (most : ℕ) (root : ℕ → ℕ) → HasRoots k most root → r ≡ root c.args.a) c.deref.ensures.value c.root_of-root.ensures.root)
    (subst (λ (k : List ClassNode). (most : ℕ) (root : ℕ → ℕ) → HasRoots k most root → o ≡ root c.args.b) c.deref-2.ensures.value c.root_of-other.ensures.root)
    tie
    (subst (λ (k : List ClassNode). r < length k) c.deref.ensures.value c.root_of-root.ensures.within) (subst (λ (k : List ClassNode). o < length k) c.deref-2.ensures.value c.root_of-other.ensures.within)
    (subst (λ (k : List ClassNode). (knot_at k r).parent ≡ r) c.deref.ensures.value c.root_of-root.ensures.top) (subst (λ (k : List ClassNode). (knot_at k o).parent ≡ o) c.deref-2.ensures.value c.root_of-other.ensures.top)
    c.if-root-other.false
    (subst (λ (k : List ClassNode). IsTieOf k r o tie) c.deref-3.ensures.value c.tie_of-tie.ensures.tie)
    (subst (λ (k : List ClassNode). IsWithinKnots tie (length k)) c.deref-3.ensures.value c.tie_of-tie.ensures.within)
    (subst (λ (k : List ClassNode). IsHung ks k tie.low tie.high) (sym same) (subst (λ (k : List ClassNode). IsHung k c.hang.new.knots tie.low tie.high) c.deref_mut.ensures.value c.hang.ensures))
    c.in_ok-push-2.ensures.items
