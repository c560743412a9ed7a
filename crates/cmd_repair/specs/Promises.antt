-- What a `repair` promises.
use Rattle.std.specs.Prelude.{◌≡◌, ℕ, List, [], ◌∷◌, codes}
use Rattle.cmd_steps.specs.Outside.{Outside}
use Rattle.cmd_repair.specs.Headline.{IsRepaired}

-- its words
abbrev pub repair_words : (machine defects image : List ℕ) → List (List ℕ)
repair_words machine defects image = codes "repair" ∷ machine ∷ defects ∷ image ∷ []

-- if the words are these, to this status
pub record RepairPromises (words : List (List ℕ)) (status : ℕ) (old new : Outside) : Type 0 where
  -- at status 0: an image is written that keeps what is free of the old one, uses nothing listed, and reads what the old one
  -- reads without faults
  pub repaired : (machine defects image : List ℕ) → words ≡ repair_words machine defects image → status ≡ 0 →
      IsRepaired machine defects image old new
