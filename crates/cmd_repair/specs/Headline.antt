-- What a `repair` that is done has done.
use Rattle.std.specs.Prelude.{◌≡◌, ℕ, ◌≤◌, List, [], ◌∷◌, ◌++◌}
use Rattle.std.specs.FinSet as set
use Rattle.base_io.specs.Vocabulary.{IfTold, Wrote}
use Rattle.machine_shape.specs.Vocabulary.{most_repaired}
use Rattle.machine_defects.specs.Lists.{DefectList}
use Rattle.machine_image.specs.Images.{ImageValue, Reads, image_bytes}
use Rattle.cmd_steps.specs.Vocabulary.{Outside, IsMachineText, IsDefectsText}
use Rattle.cmd_repair.specs.Repairing.{IsRepairOf}

-- The bytes of a new image are written: it follows the repair plan of the image of the file on the list, closes nothing that no net
-- needs, touches only what the list leaves free, and under all faults that the list covers reads what the old one reads without faults
pub record IsRepaired (machine defects image : List ℕ) (old new : Outside) : Type 0 where
  pub list : DefectList
  pub given : ImageValue
  pub repaired : ImageValue
  pub asked : new.store.asked ≡ old.store.asked ++ machine ∷ defects ∷ image ∷ []
  pub machine_is : IfTold (old.store.contents machine) (λ bytes. IsMachineText bytes list.shape)
  pub list_is : IfTold (old.store.contents defects) (λ bytes. IsDefectsText list.shape bytes list)
  pub image_is : IfTold (old.store.contents image) (λ bytes. Reads list.shape bytes given)
  pub few : set.len given.config.closed ≤ most_repaired given.config.shape
  pub repair : IsRepairOf list given repaired
  pub written : Wrote old.sink.written new.sink.written (image_bytes repaired)
