use Rattle.place_repair.proofs.Vocabulary.{◌≡◌, ℕ, List, length, sym, ap, ◌∙◌, subst, range_with_len, take_at, length-range_with_len}
use Rattle.place_repair.proofs.Vocabulary.{IfOk-weaker, wires_of, AreLow, AreLowest, AreRootsOf}
use Rattle.place_repair.proofs.Grouping.{lowest_are}
use Rattle.place_repair.proofs.groups.lowest_of.Goals as goal

pub join_all-requires : goal.join_all-requires
join_all-requires c = c.deref_mut.ensures.value ∙ c.in_ok-parents.ensures ∙ ap (range_with_len 0) (c.wires.ensures.wires ∙ ap wires_of c.shape.ensures.shape)

pub roots-requires : goal.roots-requires
roots-requires c =
    let begun : c.deref_mut.result.now ≡ range_with_len 0 (wires_of c.args.config.now.config.shape) = c.deref_mut.ensures.value ∙ c.in_ok-parents.ensures ∙ ap (range_with_len 0) (c.wires.ensures.wires ∙ ap wires_of c.shape.ensures.shape) in
    let len : length c.join_all.new.parents ≡ c.in_ok-parents.parents.len = c.join_all.ensures.sized ∙ sym (ap length begun ∙ length-range_with_len 0 (wires_of c.args.config.now.config.shape)) ∙ c.deref_mut.ensures.len in
    subst AreLow (sym (c.deref.ensures.value ∙ take_at _ _ _ len)) c.join_all.ensures.low

pub returns : goal.returns
returns c =
    let g = c.args.config.now.config in
    let begun : c.deref_mut.result.now ≡ range_with_len 0 (wires_of g.shape) = c.deref_mut.ensures.value ∙ c.in_ok-parents.ensures ∙ ap (range_with_len 0) (c.wires.ensures.wires ∙ ap wires_of c.shape.ensures.shape) in
    let len : length c.join_all.new.parents ≡ c.in_ok-parents.parents.len = c.join_all.ensures.sized ∙ sym (ap length begun ∙ length-range_with_len 0 (wires_of g.shape)) ∙ c.deref_mut.ensures.len in
    let same : c.deref.result.now ≡ c.join_all.new.parents = c.deref.ensures.value ∙ take_at _ _ _ len in
    IfOk-weaker c.roots.result (λ rs. AreRootsOf c.deref.result.now rs.items) (λ rs. AreLowest g rs.items)
    (λ rs are. lowest_are g c.join_all.new.parents rs.items (c.the_numbering_is_sound.ensures.numbered g.shape) c.shape.ensures.right.crosses c.join_all.ensures (subst (λ (ps : List ℕ). AreRootsOf ps rs.items) same are)) c.roots.ensures
