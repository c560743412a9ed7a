-- What a `compile` that is done has done.
use Rattle.std.specs.Prelude.{◌≡◌, ℕ, List, [], ◌∷◌, ◌++◌}
use Rattle.base_io.specs.Vocabulary.{IfTold, Wrote}
use Rattle.machine_defects.specs.Lists.{DefectList}
use Rattle.design_netlist.specs.declared.netlist_data.NetlistData.{NetlistData}
use Rattle.machine_image.specs.Images.{ImageValue, image_bytes}
use Rattle.cmd_steps.specs.Vocabulary.{Outside, IsMachineText, IsDefectsText, IsDesignText}
use Rattle.place_design.specs.Laying.{IsImageFor, HasRoomIfSmall}

-- The bytes of an image are written that touches only what the list leaves free, closes and switches on nothing idle, and is right
-- for the design under all faults that the list covers. On a small machine there is room for the design in order on the list
pub record IsCompiled (machine defects design : List ℕ) (old new : Outside) : Type 0 where
  pub list : DefectList
  pub draft : NetlistData
  pub image : ImageValue
  pub asked : new.store.asked ≡ old.store.asked ++ machine ∷ defects ∷ design ∷ []
  pub machine_is : IfTold (old.store.contents machine) (λ bytes. IsMachineText bytes list.shape)
  pub list_is : IfTold (old.store.contents defects) (λ bytes. IsDefectsText list.shape bytes list)
  pub design_is : IfTold (old.store.contents design) (λ bytes. IsDesignText bytes draft)
  pub image_for : IsImageFor list draft image
  pub room : HasRoomIfSmall list draft
  pub written : Wrote old.sink.written new.sink.written (image_bytes image)
