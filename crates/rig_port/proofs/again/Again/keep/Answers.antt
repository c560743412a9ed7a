use Rattle.std.proofs.Common.{◌≡◌, ◌∙◌, ◌<◌, ◌++◌, [], ◌∷◌, take, length, get_or, ◌+◌, ap, sym, append_assoc, subst, arith}
use Rattle.rig_port.proofs.Vocabulary.{take_more, HasRows}
use Rattle.rig_port.proofs.again.Again.keep.Goals as goal

pub cycles-preserved : goal.cycles-preserved
cycles-preserved c =
    let k = c.cycles.k in
    let ds = c.args.drives.now in
    let rs = c.args.readings.now in
    let here : k < length rs = omega (arith, c.cycles-test.true, c.requires.as_many) in
    let d : take (k + 1) ds ≡ take k ds ++ c.index-drives-k.result ∷ [] = take_more ds k c.index-drives-k.result c.cycles-test.true ∙ ap (λ r. take k ds ++ r ∷ []) (sym c.index-drives-k.is) in
    let r : take (k + 1) rs ≡ take k rs ++ c.index-readings-k.result ∷ [] = take_more rs k c.index-readings-k.result here ∙ ap (λ r. take k rs ++ r ∷ []) (sym c.index-readings-k.is) in
    let wide : length c.index-drives-k.result ≡ c.args.pins = ap length c.index-drives-k.is ∙ c.requires.drives k c.index-drives-k.result c.cycles-test.true in
    record {
      rows = subst (λ n. HasRows n c.add.new.self) wide c.add.ensures.rows;
      number = c.add.ensures.number ∙ c.cycles.invariant.number;
      whole = c.add.ensures.whole ∙ c.cycles.invariant.whole;
      kept = λ before after h. rw (d, r, ← append_assoc before (take k ds) (c.index-drives-k.result ∷ []), ← append_assoc after (take k rs) (c.index-readings-k.result ∷ [])) (c.add.ensures.kept _ _ (c.cycles.invariant.kept before after h));
      covers = λ now. c.cycles.invariant.covers (c.add.ensures.covers now);
    }
