use Rattle.example_parts.proofs.Vocabulary.{◌≡◌, ◌<◌, ◌≤◌, ℕ, Some, length, sym, subst, arith, Shape, nodes_of, parent_of}
use Rattle.std.specs.Prelude.{⊤}
use Rattle.diag_published.specs.Held.{Findings, FullIf}
use Rattle.example_parts.proofs.Finding.{has_one_above, unserved_each}
use Rattle.example_parts.proofs.crossbars.walk.next_trunk.Goals as goal

pub returns-in_default-clause-none : goal.returns-in_default-clause-none
returns-in_default-clause-none g c = λ at within.
    let m = c.args.facts.now.shape in
    let n = c.args.node.0 in
    let below_root : 0 < n = grind (arith, c.if-node-eq0.false) in
    let none : n < nodes_of m → (i : ℕ) → parent_of m n ≡ Some i → c.len.result ≤ i =
    subst (λ (s : Shape). n < nodes_of s → (i : ℕ) → parent_of s n ≡ Some i → c.len.result ≤ i) c.shape-shape.ensures c.in_default.ensures.none in
    let counted = c.len.ensures in
    absurd (has_one_above m n (c.the_numbering_is_sound.ensures.parents m) below_root within (λ i e. let past = none within i e in omega (arith, at, counted, past)))

pub returns-then-node-eq0-clause-none : goal.returns-then-node-eq0-clause-none
returns-then-node-eq0-clause-none g c = λ at within. unserved_each c.args.facts.now c.args.node.0 (λ told. ⊤) c.find_trunk.result c.find_trunk.ensures.none_each (λ f e. tt)

pub returns-clause-none : goal.returns-clause-none
returns-clause-none g c = λ at within.
    let below : c.in-Some.place < length c.args.walk.now.found.items = let early = c.in-Some.ensures.below in let counted = c.len.ensures in omega (arith, early, counted) in
    unserved_each c.args.facts.now c.args.node.0 (λ told. FullIf told c.args.facts.now c.args.facts.now c.index-parent.result.now) c.find_trunk-2.result c.find_trunk-2.ensures.none_each
    (λ f e. subst (λ (t : Findings). FullIf (Some f) c.args.facts.now c.args.facts.now t) (sym c.index-parent.ensures) ((c.requires.found.each c.in-Some.place _ below).full f (c.find_trunk-2.ensures.advances.narrows f e)))
