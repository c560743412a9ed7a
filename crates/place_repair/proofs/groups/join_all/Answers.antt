use Rattle.place_repair.proofs.Vocabulary.{◌≡◌, ◌+◌, ◌<◌, ℕ, true, get_or, inl, inr, refl, sym, ap, ◌∙◌, subst, arith, Cross, Shape}
use Rattle.place_repair.proofs.Vocabulary.{wires_of, crosses_of, ends_of, is_closed, IsUnited, IsCross, no_cross, IsOfFirst, of_list}
use Rattle.place_repair.proofs.Grouping.{joined_none, joined_more, joined_same, range_alone}
use Rattle.place_repair.proofs.Marking.{first_none, first_more, all_first}
use Rattle.place_repair.proofs.groups.join_all.Goals as goal

pub join-requires-clause-sized : goal.join-requires-clause-sized
join-requires-clause-sized c = c.loop-k.invariant.sized ∙ ap wires_of (sym c.shape-shape.ensures.shape)

pub join-requires-clause-within : goal.join-requires-clause-within
join-requires-clause-within c =
    let on = of_list (λ (x : Cross). x.0) c.closed-closed.result.now (is_closed c.args.config.now.config) c.closed-closed.ensures c.loop-k.k no_cross c.loop-k-test.true in
    subst (λ (s : Shape). (get_or c.closed-closed.result.now c.loop-k.k no_cross).0 < crosses_of s) (sym c.shape-shape.ensures.shape) (c.shape-shape.ensures.right.crosses (get_or c.closed-closed.result.now c.loop-k.k no_cross).0 on)

pub join-requires-clause-low : goal.join-requires-clause-low
join-requires-clause-low c = c.loop-k.invariant.low

pub loop-k-init : goal.loop-k-init
loop-k-init c =
    let alone = range_alone c.args.parents.now (wires_of c.args.config.now.config.shape) c.requires in
    joined_none c.args.config.now.config (IsOfFirst IsCross no_cross c.closed-closed.result.now 0) c.args.parents.now alone.0 alone.1 (first_none IsCross no_cross c.closed-closed.result.now)

pub loop-k-preserved : goal.loop-k-preserved
loop-k-preserved c =
    let g = c.args.config.now.config in
    let xs = c.closed-closed.result.now in
    let k : ℕ = c.loop-k.k in
    let x : ℕ = (get_or xs k no_cross).0 in
    let on = of_list (λ (y : Cross). y.0) xs (is_closed g) c.closed-closed.ensures k no_cross c.loop-k-test.true in
    let step : IsUnited c.loop-k.parents c.join.new.parents (ends_of g.shape x).0 (ends_of g.shape x).1 = subst (λ (s : Shape). IsUnited c.loop-k.parents c.join.new.parents (ends_of s x).0 (ends_of s x).1) c.shape-shape.ensures.shape c.join.ensures in
    joined_more g (IsOfFirst IsCross no_cross xs k) (IsOfFirst IsCross no_cross xs (k + 1)) c.loop-k.parents c.join.new.parents x on c.loop-k.invariant step
    (λ y m. elim (first_more IsCross no_cross xs k y m) [ inl before ↦ inl before | inr e ↦ inr (sym e) ])

pub returns : goal.returns
returns c =
    let g = c.args.config.now.config in
    let xs = c.closed-closed.result.now in
    joined_same g (IsOfFirst IsCross no_cross xs c.loop-k.k) (λ x. is_closed g x ≡ true) c.loop-k.parents c.loop-k.invariant
    (λ x on. all_first (λ (y : Cross). y.0) xs (is_closed g) c.closed-closed.ensures (λ y z. y ≡ z) no_cross c.loop-k.k x (omega arith) x on refl)
