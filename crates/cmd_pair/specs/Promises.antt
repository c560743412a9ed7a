-- What a `pair` promises.
use Rattle.std.specs.Prelude.{◌≡◌, ℕ, List, [], ◌∷◌, codes}
use Rattle.cmd_steps.specs.Vocabulary.{Outside, around, LoadsOnce}
use Rattle.diag_list.specs.Lists.{MadeFewLoads}
use Rattle.run_image.specs.Headline.{BeginsWithList}
use Rattle.cmd_pair.specs.Headline.{IsPaired, HaveRoomLeft}

-- its words
abbrev pub pair_words : (machine name first second vectors : List ℕ) → List (List ℕ)
pair_words machine name first second vectors = codes "pair" ∷ machine ∷ name ∷ first ∷ second ∷ vectors ∷ []

-- if the words are these, to this status
pub record PairPromises (words : List (List ℕ)) (status : ℕ) (old new : Outside) : Type 0 where
  -- whatever the status: what is written begins with a list that covers every fault and is tight, so far as it goes
  pub listed : (machine name first second vectors : List ℕ) → words ≡ pair_words machine name first second vectors →
      BeginsWithList machine name old new
  -- at status 0: every fault was listed, an image of both designs was loaded that uses nothing listed, and their rows are
  -- written side by side
  pub paired : (machine name first second vectors : List ℕ) → words ≡ pair_words machine name first second vectors →
      status ≡ 0 → IsPaired machine name first second vectors old new
  -- and the joint network of their plain networks fits, in order, on the list
  pub room : (machine name first second vectors : List ℕ) → words ≡ pair_words machine name first second vectors → status ≡ 0 →
      HaveRoomLeft machine first second old new
  -- whatever the status: few loads were made for the list, and one more at most
  pub loads : (machine name first second vectors : List ℕ) → words ≡ pair_words machine name first second vectors →
      MadeFewLoads machine name LoadsOnce (around old) (around new)
