-- What a `check` promises.
use Rattle.std.specs.Prelude.{◌≡◌, ℕ, List, [], ◌∷◌, codes}
use Rattle.cmd_steps.specs.Outside.{Outside}
use Rattle.cmd_check.specs.Headline.{IsChecked}

-- its words
abbrev pub check_words : (machine name image : List ℕ) → List (List ℕ)
check_words machine name image = codes "check" ∷ machine ∷ name ∷ image ∷ []

-- if the words are these, to this status
pub record CheckPromises (words : List (List ℕ)) (status : ℕ) (old new : Outside) : Type 0 where
  -- at status 0: it is written that the image runs soundly, or the first part of it that a list of the machine's defects
  -- doesn't leave free; and neither without cause
  pub checked : (machine name image : List ℕ) → words ≡ check_words machine name image → status ≡ 0 →
      IsChecked machine name image old new
