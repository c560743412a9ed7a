-- What a `diagnose` promises.
use Rattle.std.specs.Prelude.{◌≡◌, ℕ, List, [], ◌∷◌, codes}
use Rattle.cmd_steps.specs.Outside.{Outside, around}
use Rattle.diag_list.specs.{Lists.MadeFewLoads, Possible.MakesFewCycles}
use Rattle.cmd_diagnose.specs.Headline.{IsDiagnosed}

-- its words
abbrev pub diagnose_words : (machine name : List ℕ) → List (List ℕ)
diagnose_words machine name = codes "diagnose" ∷ machine ∷ name ∷ []

-- if the words are these, to this status
pub record DiagnosePromises (words : List (List ℕ)) (status : ℕ) (old new : Outside) : Type 0 where
  -- at status 0: a list of the machine's defects is written
  pub diagnosed : (machine name : List ℕ) → words ≡ diagnose_words machine name → status ≡ 0 →
      IsDiagnosed machine name old new
  -- whatever the status: few loads were made, and none but those of the list
  pub loads : (machine name : List ℕ) → words ≡ diagnose_words machine name →
      MadeFewLoads machine name (λ made now. now ≡ made) (around old) (around new)
  -- and few cycles for each load
  pub cycles : (machine name : List ℕ) → words ≡ diagnose_words machine name → MakesFewCycles old.rig new.rig
