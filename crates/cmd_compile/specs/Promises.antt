-- What a `compile` promises.
use Rattle.std.specs.Prelude.{◌≡◌, ℕ, List, [], ◌∷◌, codes}
use Rattle.cmd_steps.specs.Outside.{Outside}
use Rattle.cmd_compile.specs.Headline.{IsCompiled}

-- its words
abbrev pub compile_words : (machine defects design : List ℕ) → List (List ℕ)
compile_words machine defects design = codes "compile" ∷ machine ∷ defects ∷ design ∷ []

-- if the words are these, to this status
pub record CompilePromises (words : List (List ℕ)) (status : ℕ) (old new : Outside) : Type 0 where
  -- at status 0: an image of the design is written that uses nothing listed, and is right under all that the list covers
  pub compiled : (machine defects design : List ℕ) → words ≡ compile_words machine defects design → status ≡ 0 →
      IsCompiled machine defects design old new
