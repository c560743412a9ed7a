-- What a `go` that is done has done.
use Rattle.std.specs.Prelude.{◌≡◌, ℕ, Bool, List, [], ◌∷◌, ◌++◌, length, Some}
use Rattle.base_io.specs.Vocabulary.{next_count, IfTold, Wrote}
use Rattle.machine_shape.specs.declared.Shape.{Shape}
use Rattle.machine_meaning.specs.Vocabulary.{Faults, Covers, IsFair, IsTight}
use Rattle.machine_defects.specs.Vocabulary.{DefectList, IsDefectList, text_of}
use Rattle.design_netlist.specs.{declared.netlist_data.NetlistData.NetlistData, Rows.AreRows}
use Rattle.machine_image.specs.Images.{ImageValue}
use Rattle.machine_history.specs.Vocabulary.{History, IsHistoryOf, IsRunOver}
use Rattle.rig.specs.Rig.{Explains, cycles_of, drives_of, readings_of}
use Rattle.place_route.specs.RightImages.{IsRightImage}
use Rattle.cmd_steps.specs.Vocabulary.{Outside, IsMachineText, IsDesignText}
use Rattle.diag_list.specs.{Possible.TakesFewLoadsOn, Lists.Listed}
use Rattle.place_design.specs.Laying.{HasRoomIfSmall, IsRoutedDesign}
use Rattle.run_image.specs.Headline.{IsAskedInOrder, IsWrittenWhole, UsesNothingListed, IsAsRead}

-- Of the rig's one session: its configuration, with a list of input pins and a list of output pins, is `image`
pub record IsGone (machine name design vectors : List ℕ) (old new : Outside) : Type 0 where
  pub shape : Shape
  pub draft : NetlistData
  pub made : Listed
  pub image : ImageValue
  pub all_vectors : List (List Bool)
  pub rows : List (List Bool)
  pub design_is : IfTold (old.store.contents design) (λ bytes. IsDesignText bytes draft)
  pub list_shape : made.list.shape ≡ shape
  pub asked_in_order : IsAskedInOrder machine name (design ∷ vectors ∷ []) shape old new
  pub written_whole : IsWrittenWhole vectors made.list (length draft.inputs) all_vectors rows old new
  pub covers_every_fault : (f : Faults) → Explains f new.rig → Covers shape made.list.list f
  pub uses_nothing_listed : UsesNothingListed made.list image new.rig
  -- a pin for each input and each output of the design, all different
  pub inputs : length image.inputs ≡ length draft.inputs
  pub outputs : length image.outputs ≡ length draft.outputs
  -- for all vectors, under all faults that the list covers
  pub image_right : (f : Faults) → Covers shape made.list.list f → IsRightImage f image draft
  pub as_the_machine_read : IsAsRead image all_vectors rows new.rig
  pub exactly_the_outputs : (f : Faults) → Explains f new.rig → AreRows draft all_vectors rows
  -- whatever the listed parts do, at any time: where the list covers the faults of each instant of a history, and the session's
  -- readings are the run over it, the rows are the design's
  pub listed_parts_at_will : (h : History) → IsHistoryOf shape h →
      ((cycle instant : ℕ) → Covers shape made.list.list (h cycle instant)) →
      IsRunOver h image.config (drives_of (cycles_of new.rig)) (readings_of (cycles_of new.rig)) → AreRows draft all_vectors rows

-- And what it has done besides
pub record IsWellGone (machine name design vectors : List ℕ) (old new : Outside) : Type 0 where
  pub gone : IsGone machine name design vectors old new
  -- no table is on and no crosspoint closed that the design doesn't need
  pub routed : IsRoutedDesign gone.made.list gone.draft gone.image
  -- the list is tight, and so fair; few loads were made for it, and exactly one after it
  pub tight : (f : Faults) → Explains f new.rig → IsTight gone.shape gone.made.list.list f
  pub fair : (f : Faults) → Explains f new.rig → IsFair gone.shape gone.made.list.list f
  pub few : TakesFewLoadsOn new.rig gone.shape old.rig.loads gone.made.loads
  pub loaded_once : new.rig.loads ≡ next_count gone.made.loads

-- On a small machine the plain network of the design fits, in order, on the list that stands written
pub record HasRoomLeft (machine design : List ℕ) (old new : Outside) : Type 0 where
  pub draft : NetlistData
  pub list : DefectList
  pub rest : List ℕ
  pub machine_is : IfTold (old.store.contents machine) (λ bytes. IsMachineText bytes list.shape)
  pub design_is : IfTold (old.store.contents design) (λ bytes. IsDesignText bytes draft)
  pub is_list : IsDefectList list
  pub written : Wrote old.sink.written new.sink.written (text_of list ++ rest)
  pub room : HasRoomIfSmall list draft
