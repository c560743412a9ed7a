-- What an `eval` promises.
use Rattle.std.specs.Prelude.{◌≡◌, ℕ, List, [], ◌∷◌, codes}
use Rattle.cmd_steps.specs.Outside.{Outside}
use Rattle.cmd_eval.specs.Headline.{IsEvaled}

-- its words
abbrev pub eval_words : (design vectors : List ℕ) → List (List ℕ)
eval_words design vectors = codes "eval" ∷ design ∷ vectors ∷ []

-- if the words are these, to this status
pub record EvalPromises (words : List (List ℕ)) (status : ℕ) (old new : Outside) : Type 0 where
  -- at status 0: the rows of the design are written
  pub evaled : (design vectors : List ℕ) → words ≡ eval_words design vectors → status ≡ 0 →
      IsEvaled design vectors old new
