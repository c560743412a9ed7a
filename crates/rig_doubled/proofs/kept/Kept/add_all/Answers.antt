use Rattle.rig_doubled.proofs.Vocabulary.{◌≡◌, ◌∙◌, ◌<◌, ◌++◌, [], ◌∷◌, take, length, ◌+◌, ap, sym, append_assoc, arith, take_more}
use Rattle.rig_doubled.proofs.kept.Kept.add_all.Goals as goal

pub cycles-preserved : goal.cycles-preserved
cycles-preserved c =
    let k = c.cycles.k in
    let ds = c.args.drives.now in
    let rs = c.args.readings.now in
    let here : k < length rs = omega (arith, c.cycles-test.true, c.requires.as_many) in
    let d : take (k + 1) ds ≡ take k ds ++ c.index-drives-k.result ∷ [] = take_more ds k c.index-drives-k.result c.cycles-test.true ∙ ap (λ r. take k ds ++ r ∷ []) (sym c.index-drives-k.is) in
    let r : take (k + 1) rs ≡ take k rs ++ c.index-readings-k.result ∷ [] = take_more rs k c.index-readings-k.result here ∙ ap (λ r. take k rs ++ r ∷ []) (sym c.index-readings-k.is) in
    record {
      config = c.add.ensures.config ∙ c.cycles.invariant.config;
      roomy = c.add.ensures.roomy;
      kept = λ before after h. rw (d, r, ← append_assoc before (take k ds) (c.index-drives-k.result ∷ []), ← append_assoc after (take k rs) (c.index-readings-k.result ∷ [])) (c.add.ensures.kept _ _ (c.cycles.invariant.kept before after h));
    }
