-- What a `go` promises.
use Rattle.std.specs.Prelude.{◌≡◌, ℕ, List, [], ◌∷◌, codes}
use Rattle.cmd_steps.specs.Vocabulary.{Outside, around, LoadsOnce}
use Rattle.diag_list.specs.Lists.{MadeFewLoads}
use Rattle.run_image.specs.Headline.{BeginsWithList}
use Rattle.cmd_go.specs.Headline.{IsWellGone, HasRoomLeft}

-- its words
abbrev pub go_words : (machine name design vectors : List ℕ) → List (List ℕ)
go_words machine name design vectors = codes "go" ∷ machine ∷ name ∷ design ∷ vectors ∷ []

-- if the words are these, to this status
pub record GoPromises (words : List (List ℕ)) (status : ℕ) (old new : Outside) : Type 0 where
  -- whatever the status: what is written begins with a list that covers every fault and is tight, so far as it goes
  pub listed : (machine name design vectors : List ℕ) → words ≡ go_words machine name design vectors →
      BeginsWithList machine name old new
  -- at status 0: every fault was listed, an image was loaded that uses nothing listed, and the rows of the design are written
  pub gone : (machine name design vectors : List ℕ) → words ≡ go_words machine name design vectors → status ≡ 0 →
      IsWellGone machine name design vectors old new
  -- and on a small machine the plain network of the design fits, in order, on the list
  pub room : (machine name design vectors : List ℕ) → words ≡ go_words machine name design vectors → status ≡ 0 →
      HasRoomLeft machine design old new
  -- whatever the status: few loads were made for the list, and one more at most
  pub loads : (machine name design vectors : List ℕ) → words ≡ go_words machine name design vectors →
      MadeFewLoads machine name LoadsOnce (around old) (around new)
