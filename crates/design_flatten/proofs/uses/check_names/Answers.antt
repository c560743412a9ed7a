use Rattle.design_flatten.proofs.Vocabulary.{◌≡◌, ℕ, List, map, false, Use, uses_of, is_among, use_in, listed, names_of}
use Rattle.design_flatten.proofs.UseLemmas.{no_first}
use Rattle.design_flatten.proofs.uses.check_names.Goals as goal

pub returns-in_ok-name-in-Some-clause-only : goal.returns-in_ok-name-in-Some-clause-only
returns-in_ok-name-in-Some-clause-only c =
    let ms = c.args.catalog.now.models.now in
    λ none. absurd (no_first (map use_in c.args.uses.now) (uses_of ms) (λ (us : List Use) (k : ℕ). is_among (names_of ms) (listed us k).model ≡ false) c.first_unknown.result c.in-Some.place c.requires.uses c.in-Some.is c.first_unknown.ensures none)
