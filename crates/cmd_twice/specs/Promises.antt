-- What a `twice` promises.
use Rattle.std.specs.Prelude.{◌≡◌, ℕ, List, [], ◌∷◌, codes}
use Rattle.cmd_steps.specs.Vocabulary.{Outside, around, LoadsOnce}
use Rattle.diag_list.specs.Lists.{MadeFewLoads}
use Rattle.run_image.specs.Headline.{BeginsWithList}
use Rattle.cmd_twice.specs.Headline.{IsDoneTwice, HasRoomLeft, ReadDifferently, StandsTwice}

-- its words
abbrev pub twice_words : (machine name design vectors : List ℕ) → List (List ℕ)
twice_words machine name design vectors = codes "twice" ∷ machine ∷ name ∷ design ∷ vectors ∷ []

-- if the words are these, to this status
pub record TwicePromises (words : List (List ℕ)) (status : ℕ) (old new : Outside) : Type 0 where
  -- whatever the status: what is written begins with a list that covers every fault and is tight, so far as it goes
  pub listed : (machine name design vectors : List ℕ) → words ≡ twice_words machine name design vectors →
      BeginsWithList machine name old new
  -- and the rows are what both copies have read, and right where one and the same copy was left alone
  pub stands : (machine name design vectors : List ℕ) → words ≡ twice_words machine name design vectors →
      StandsTwice machine name design vectors old new
  -- at status 0: every fault was listed, an image of two copies was loaded that uses nothing listed, and a row is written for each
  -- vector
  pub compared : (machine name design vectors : List ℕ) → words ≡ twice_words machine name design vectors → status ≡ 0 →
      IsDoneTwice machine name design vectors old new
  -- and the design and itself fit, in order, on the list
  pub room : (machine name design vectors : List ℕ) → words ≡ twice_words machine name design vectors → status ≡ 0 →
      HasRoomLeft machine design old new
  -- at status 7: the copies have read differently, behind the rows that are written
  pub differ : (machine name design vectors : List ℕ) → words ≡ twice_words machine name design vectors → status ≡ 7 →
      ReadDifferently machine name design vectors old new
  -- whatever the status: few loads were made for the list, and one more at most
  pub loads : (machine name design vectors : List ℕ) → words ≡ twice_words machine name design vectors →
      MadeFewLoads machine name LoadsOnce (around old) (around new)
