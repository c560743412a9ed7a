use Rattle.design_blif.proofs.Vocabulary.{◌≡◌, ◌∙◌, ◌+◌, false, ap, map, take, drop, refl, list_all, is_pair}
use Rattle.design_blif.proofs.NamesLemmas.{words_split, some_wrong}
use Rattle.design_blif.proofs.lines.split_pairs.Goals as goal

pub returns-in_default-clause-steps : goal.returns-in_default-clause-steps
returns-in_default-clause-steps c =
    let wrong : list_all is_pair (map (λ w. w.now) c.args.words.now) ≡ false = ap (list_all is_pair) (words_split c.args.words.now c.words.word-index _ c.words-test.true) ∙ some_wrong is_pair (map (λ w. w.now) (take c.words.word-index c.args.words.now)) _ (map (λ w. w.now) (drop (c.words.word-index + 1) c.args.words.now)) c.in_default.ensures in
    rw wrong refl
