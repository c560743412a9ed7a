-- What a `check` that is done has done.
use Rattle.std.specs.Prelude.{◌≡◌, ℕ, true, false, List, [], ◌∷◌, ◌++◌, Some}
use Rattle.base_io.specs.Vocabulary.{IfTold, Wrote}
use Rattle.machine_shape.specs.declared.Shape.{Shape}
use Rattle.machine_meaning.specs.Faults.{Faults}
use Rattle.machine_image.specs.Images.{ImageValue, IsImage, Reads}
use Rattle.rig.specs.Rig.{RigState, Explains}
use Rattle.diag_check.specs.Soundly.{IsUnharmed, StandsBySurroundings, TakesForParts, TakesForWays}
use Rattle.cmd_steps.specs.Vocabulary.{Outside, IsMachineText}
use Rattle.diag_list.specs.Lists.{Listed, IsListed}
use Rattle.cmd_check.specs.{Answers.IsByList, Answers.IsTrueUnder, Answers.answer_line, Testing.Tried, Testing.IsTried}
use Rattle.cmd_check.specs.declared.answer.Answer.{Answer, TheVariants.Sound}

-- How the answer came: the image was tested and found sound; or it wasn't, the machine's defects were listed, and the list says so. No
-- load was made but for this
pub data IsFound (i : ImageValue) (before : ℕ) (rig : RigState) (a : Answer) : Type 0 where
  tested : (t : Tried) → IsTried i before rig t → t.sound ≡ true → a ≡ Sound → rig.loads ≡ t.loads → IsFound i before rig a
  listed : (t : Tried) (l : Listed) → IsTried i before rig t → t.sound ≡ false → IsListed i.config.shape t.loads rig l
      → IsByList l.list.list i a → rig.loads ≡ l.loads → IsFound i before rig a

-- The machine of the text is attached under the name, and one line is written: that the image of the file is sound, or its first part
-- that isn't free on a list of the machine's defects. Each set of faults that explains what was read leaves an image that is called
-- sound alone, so that it runs soundly under it, and under it a part that is in doubt isn't sound, or is out of reach; and where the
-- image stands by its surroundings under one such set, it is called sound, with at most 256 loads for each part and each involved node,
-- and 8 for each crosspoint and 3 for each wire of the surroundings. So it is where one such set has no fault near the image and the
-- machine is wide enough for it, with those 256 alone
pub record IsChecked (machine name image : List ℕ) (old new : Outside) : Type 0 where
  pub shape : Shape
  pub given : ImageValue
  pub answer : Answer
  pub asked : new.store.asked ≡ old.store.asked ++ machine ∷ image ∷ []
  pub machine_is : IfTold (old.store.contents machine) (λ bytes. IsMachineText bytes shape)
  pub attached : new.rig.machine.attached ≡ Some (record { shape = shape; name = name })
  pub image_of : given.config.shape ≡ shape
  pub is_image : IsImage given
  pub image_is : IfTold (old.store.contents image) (λ bytes. Reads shape bytes given)
  pub found : IsFound given old.rig.loads new.rig answer
  pub written : Wrote old.sink.written new.sink.written (answer_line shape answer)
  pub right : (f : Faults) → Explains f new.rig → IsTrueUnder f given answer
  pub whole : (f : Faults) → Explains f new.rig → IsUnharmed f given →
      (answer ≡ Sound) × TakesForParts given old.rig.loads new.rig.loads
  pub ways : (f : Faults) → Explains f new.rig → StandsBySurroundings f given →
      (answer ≡ Sound) × TakesForWays given old.rig.loads new.rig.loads
