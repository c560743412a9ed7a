use Rattle.place_repair.proofs.Vocabulary.{◌≡◌, ◌+◌, ◌++◌, ◌∷◌, [], length, sym, ap, ◌∙◌, subst, arith, AreRootsTo}
use Rattle.place_repair.proofs.Grouping.{roots_none}
use Rattle.place_repair.proofs.groups.roots.Goals as goal

pub next_root-requires-clause-before : goal.next_root-requires-clause-before
next_root-requires-clause-before c = subst (AreRootsTo c.loop-wire.wire c.args.parents.now) (sym c.deref.ensures.value) c.loop-wire.invariant

pub loop-wire-init : goal.loop-wire-init
loop-wire-init c = subst (AreRootsTo 0 c.args.parents.now) (sym c.new-roots.ensures.items) (roots_none c.args.parents.now c.requires)

pub loop-wire-preserved : goal.loop-wire-preserved
loop-wire-preserved c =
    subst (AreRootsTo (c.loop-wire.wire + 1) c.args.parents.now) (sym (c.in_ok-push.ensures.items ∙ ap (λ xs. xs ++ c.next_root.result ∷ []) (sym c.deref.ensures.value))) c.next_root.ensures

pub returns : goal.returns
returns c = subst (λ n. AreRootsTo n c.args.parents.now c.loop-wire.roots.items) (let e : c.loop-wire.wire ≡ length c.args.parents.now = omega arith in e) c.loop-wire.invariant
