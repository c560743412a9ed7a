use Rattle.std.proofs.Common.{◌≡◌, ◌<◌, ◌+◌, ◌-◌, ℕ, Bool, List, ◌∙◌, length, set, if◌then◌else◌, sym, ap, subst, arith, ◌==◌}
use Rattle.machine_defects.proofs.Vocabulary.{with_items, ends_of, node_of_cross, AreRight, listed_by, marks_in, count_at, items_after}
use Rattle.machine_defects.proofs.Putting.{cross_as_it_is, cross_right, cross_listed, few_shut, few_crosses, some_open}
use Rattle.machine_defects.proofs.kept.put_cross.Goals as goal
use Rattle.machine_defects.proofs.kept.put_cross.Goals.{After-insert-2}

pub returns-then-has-clause-listed : goal.returns-then-has-clause-listed
returns-then-has-clause-listed c = ap (λ d. record { shape = c.args.kept.now.shape; list = d }) (sym (cross_as_it_is (marks_in c.args.kept.now) c.requires.kept c.args.x.0 c.requires.within (sym c.has.ensures ∙ c.if-has.true)))

pub shut_line-requires-clause-few : goal.shut_line-requires-clause-few
shut_line-requires-clause-few c =
    let k = marks_in c.args.kept.now in
    let h = few_shut k c.requires.kept c.args.x.0 c.requires.within (sym c.has.ensures ∙ c.if-has.false) (c.the_crosspoints_are_sound.ensures.crosses k.shape) (c.the_numbering_is_sound.ensures.meanings k.shape) in
    let line : c.ends.result.1.0 ≡ (ends_of k.shape c.args.x.0).1 = ap (λ (p : ℕ × ℕ). p.1) c.ends.ensures.ends in
    let same : count_at c.deref_mut.result.now c.ends.result.1.0 ≡ count_at k.shut (ends_of k.shape c.args.x.0).1 = (λ i. count_at (c.deref_mut.ensures.value i) (line i)) in
    let few = few_crosses k.shape in
    omega (arith, h, same, few)

pub shut_line-requires-clause-clear : goal.shut_line-requires-clause-clear
shut_line-requires-clause-clear c =
    let k = marks_in c.args.kept.now in
    let line : c.ends.result.1.0 ≡ (ends_of k.shape c.args.x.0).1 = ap (λ (p : ℕ × ℕ). p.1) c.ends.ensures.ends in
    let same : count_at c.deref_mut.result.now c.ends.result.1.0 ≡ count_at k.shut (ends_of k.shape c.args.x.0).1 = (λ i. count_at (c.deref_mut.ensures.value i) (line i)) in
    let clear : count_at c.deref_mut-2.result.now c.node_of_cross-node.result.0 ≡ count_at k.open_lines (node_of_cross k.shape c.args.x.0) = (λ i. count_at (c.deref_mut-2.ensures.value i) (c.node_of_cross-node.ensures.node i)) in
    λ none. subst (λ n. 0 < n) (sym clear) (some_open k c.requires.kept c.args.x.0 c.requires.within (sym c.has.ensures ∙ c.if-has.false) (c.the_crosspoints_are_sound.ensures.crosses k.shape) (c.the_numbering_is_sound.ensures.meanings k.shape) (sym same ∙ none))

shut_now : (c : After-insert-2) → (with_items c.args.kept.now.shut c.shut_line.new.shut).items ≡ set c.args.kept.now.shut.items (ends_of c.args.kept.now.shape c.args.x.0).1 (count_at c.args.kept.now.shut.items (ends_of c.args.kept.now.shape c.args.x.0).1 + 1)
shut_now c =
    let line : c.ends.result.1.0 ≡ (ends_of c.args.kept.now.shape c.args.x.0).1 = ap (λ (p : ℕ × ℕ). p.1) c.ends.ensures.ends in
    items_after c.args.kept.now.shut c.shut_line.new.shut (c.shut_line.auto.shut ∙ ap length c.deref_mut.ensures.value)
    ∙ c.shut_line.ensures.shut ∙ (λ i. set (c.deref_mut.ensures.value i) (line i) (count_at (c.deref_mut.ensures.value i) (line i) + 1))

open_now : (c : After-insert-2) → (with_items c.args.kept.now.open_lines c.shut_line.new.open_lines).items
    ≡ (if count_at c.args.kept.now.shut.items (ends_of c.args.kept.now.shape c.args.x.0).1 == 0 then set c.args.kept.now.open_lines.items (node_of_cross c.args.kept.now.shape c.args.x.0) (count_at c.args.kept.now.open_lines.items (node_of_cross c.args.kept.now.shape c.args.x.0) - 1) else c.args.kept.now.open_lines.items)
open_now c =
    let line : c.ends.result.1.0 ≡ (ends_of c.args.kept.now.shape c.args.x.0).1 = ap (λ (p : ℕ × ℕ). p.1) c.ends.ensures.ends in
    let node = c.node_of_cross-node.ensures.node in
    items_after c.args.kept.now.open_lines c.shut_line.new.open_lines (c.shut_line.auto.open_lines ∙ ap length c.deref_mut-2.ensures.value)
    ∙ c.shut_line.ensures.open ∙ (λ i. if count_at (c.deref_mut.ensures.value i) (line i) == 0 then set (c.deref_mut-2.ensures.value i) (node i) (count_at (c.deref_mut-2.ensures.value i) (node i) - 1) else c.deref_mut-2.ensures.value i)

pub returns-clause-kept : goal.returns-clause-kept
returns-clause-kept c =
    let k = marks_in c.args.kept.now in
    subst (λ (p : (List Bool × List Bool) × (List ℕ × List ℕ)). AreRight (record k { crosses = p.0.0; barred = p.0.1; shut = p.1.0; open_lines = p.1.1 }))
    (λ i. ((sym c.insert.ensures i, sym c.insert-2.ensures i), (sym (shut_now c) i, sym (open_now c) i)))
    (cross_right k c.requires.kept c.args.x.0 c.requires.within (sym c.has.ensures ∙ c.if-has.false) (c.the_crosspoints_are_sound.ensures.crosses k.shape) (c.the_numbering_is_sound.ensures.meanings k.shape))

pub returns-clause-listed : goal.returns-clause-listed
returns-clause-listed c =
    let k = marks_in c.args.kept.now in
    ap (λ xs. listed_by (record k { crosses = xs })) c.insert.ensures
    ∙ cross_listed k c.requires.kept c.args.x.0 c.requires.within (sym c.has.ensures ∙ c.if-has.false) (c.the_crosspoints_are_sound.ensures.crosses k.shape) (c.the_numbering_is_sound.ensures.meanings k.shape)
