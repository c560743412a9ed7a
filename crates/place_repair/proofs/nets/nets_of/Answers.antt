use Rattle.std.proofs.Common.{◌≡◌, ◌<◌, ◌≤◌, ℕ, All, List, length, replicate, sym, ap, ◌∙◌, subst, rules, arith}
use Rattle.place_repair.proofs.Vocabulary.{take_at, length-replicate, wires_of, AreLowest, AreMarks, IsEnd, AreNumbers}
use Rattle.place_repair.proofs.Hanging.{lowest_within, lowest_few}
use Rattle.place_repair.proofs.nets.nets_of.Goals as goal

pub lowest_wires-requires-clause-lows : goal.lowest_wires-requires-clause-lows
lowest_wires-requires-clause-lows c = subst (AreLowest c.args.config.now.config) (sym c.deref.ensures.value) c.in_ok-lows.ensures

pub lowest_wires-requires-clause-touched : goal.lowest_wires-requires-clause-touched
lowest_wires-requires-clause-touched c = subst (AreMarks (wires_of c.args.config.now.config.shape) (IsEnd c.args.config.now.config)) (sym c.deref-2.ensures.value) c.in_ok-touched.ensures

pub number-requires-clause-few : goal.number-requires-clause-few
number-requires-clause-few c =
    let g = c.args.config.now.config in
    let most : length c.in_ok-lowest.lowest ≤ wires_of g.shape = lowest_few g (c.the_numbering_is_sound.ensures.numbered g.shape) c.shape.ensures.right c.in_ok-lowest.lowest c.in_ok-lowest.ensures in
    let wires : c.wires-wires.result ≡ wires_of g.shape = c.wires-wires.ensures.wires ∙ ap wires_of c.shape.ensures.shape in
    let few : c.wires-wires.result ≤ 1310720 = c.wires-wires.ensures.few in
    let same : length c.as_slice.result.now ≡ length c.in_ok-lowest.lowest = ap length c.as_slice.ensures in
    omega (arith, most, wires, few, same)

pub number-requires-clause-within : goal.number-requires-clause-within
number-requires-clause-within c =
    let g = c.args.config.now.config in
    let zeros : c.deref_mut.result.now ≡ replicate c.len.result 0 = c.deref_mut.ensures.value ∙ c.in_ok-numbers.ensures.items_if_clones_equal (search rules) in
    let len : length c.deref_mut.result.now ≡ wires_of g.shape = ap length zeros ∙ length-replicate c.len.result 0 ∙ c.len.ensures ∙ c.in_ok-lows.lows.ok.0 ∙ c.in_ok-lows.ensures.sized in
    subst (λ n. All (λ w. w < n) c.as_slice.result.now) (sym len)
    (subst (All (λ w. w < wires_of g.shape)) (sym c.as_slice.ensures) (lowest_within g (c.the_numbering_is_sound.ensures.numbered g.shape) c.shape.ensures.right c.in_ok-lowest.lowest c.in_ok-lowest.ensures))

pub returns : goal.returns
returns c =
    let g = c.args.config.now.config in
    let zeros : c.deref_mut.result.now ≡ replicate c.len.result 0 = c.deref_mut.ensures.value ∙ c.in_ok-numbers.ensures.items_if_clones_equal (search rules) in
    let len : length c.deref_mut.result.now ≡ wires_of g.shape = ap length zeros ∙ length-replicate c.len.result 0 ∙ c.len.ensures ∙ c.in_ok-lows.lows.ok.0 ∙ c.in_ok-lows.ensures.sized in
    let same : length c.number.new.numbers ≡ c.in_ok-numbers.numbers.len = c.number.ensures.sized ∙ c.deref_mut.ensures.len in
    record {
      lows_are = c.in_ok-lows.ensures;
      touched_are = c.in_ok-touched.ensures;
      lowest_are = c.in_ok-lowest.ensures;
      numbered = ap length (take_at _ _ _ same) ∙ c.number.ensures.sized ∙ len;
      numbers_are = subst (AreNumbers c.in_ok-lowest.lowest) (sym (take_at _ _ _ same)) (subst (λ (ws : List ℕ). AreNumbers ws c.number.new.numbers) c.as_slice.ensures c.number.ensures.numbers);
      few = lowest_few g (c.the_numbering_is_sound.ensures.numbered g.shape) c.shape.ensures.right c.in_ok-lowest.lowest c.in_ok-lowest.ensures;
    }
