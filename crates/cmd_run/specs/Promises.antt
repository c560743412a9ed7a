-- What a `run` promises.
use Rattle.std.specs.Prelude.{◌≡◌, ℕ, List, [], ◌∷◌, codes}
use Rattle.cmd_steps.specs.Outside.{Outside}
use Rattle.cmd_run.specs.Headline.{IsRan}

-- its words
abbrev pub run_words : (machine name image vectors : List ℕ) → List (List ℕ)
run_words machine name image vectors = codes "run" ∷ machine ∷ name ∷ image ∷ vectors ∷ []

-- if the words are these, to this status
pub record RunPromises (words : List (List ℕ)) (status : ℕ) (old new : Outside) : Type 0 where
  -- at status 0: the image was loaded, the vectors were driven, and what was read is written
  pub ran : (machine name image vectors : List ℕ) → words ≡ run_words machine name image vectors → status ≡ 0 →
      IsRan machine name image vectors old new
