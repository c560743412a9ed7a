-- What a `pair` that is done has done.
use Rattle.std.specs.Prelude.{◌≡◌, ℕ, ◌+◌, Bool, List, [], ◌∷◌, ◌++◌, length, map, take, drop}
use Rattle.base_io.specs.Vocabulary.{next_count, IfTold, Wrote}
use Rattle.machine_shape.specs.declared.Shape.{Shape}
use Rattle.machine_meaning.specs.Vocabulary.{Faults, Covers, IsFair, IsTight}
use Rattle.machine_defects.specs.Vocabulary.{DefectList, IsDefectList, text_of}
use Rattle.design_netlist.specs.declared.netlist_data.NetlistData.{NetlistData}
use Rattle.machine_image.specs.Images.{ImageValue}
use Rattle.machine_history.specs.Vocabulary.{History, IsHistoryOf, IsRunOver}
use Rattle.rig.specs.Rig.{Explains, cycles_of, drives_of, readings_of}
use Rattle.place_route.specs.Vocabulary.{IsRightImage, ReadsRows}
use Rattle.place_pair.specs.Tenants.{AreTenants, StandApart}
use Rattle.cmd_steps.specs.Vocabulary.{Outside, IsMachineText, IsDesignText}
use Rattle.diag_list.specs.{Possible.TakesFewLoadsOn, Lists.Listed}
use Rattle.run_image.specs.Headline.{IsAskedInOrder, IsWrittenWhole, UsesNothingListed, IsAsRead}
use Rattle.place_both.specs.{Both.AreBothRows, Both.BothHaveRoom, Both.IsRoutedForBoth, Alone.AreRightWhileAlone}

-- Of the rig's one session: its configuration, with a list of input pins and a list of output pins, is `image`. The parts of it
-- that are each design's, `first_image` and `second_image`, share no wire
pub record IsPaired (machine name first second vectors : List ℕ) (old new : Outside) : Type 0 where
  pub shape : Shape
  pub first_draft : NetlistData
  pub second_draft : NetlistData
  pub made : Listed
  pub image : ImageValue
  pub all_vectors : List (List Bool)
  pub rows : List (List Bool)
  pub first_is : IfTold (old.store.contents first) (λ bytes. IsDesignText bytes first_draft)
  pub second_is : IfTold (old.store.contents second) (λ bytes. IsDesignText bytes second_draft)
  pub list_shape : made.list.shape ≡ shape
  pub asked_in_order : IsAskedInOrder machine name (first ∷ second ∷ vectors ∷ []) shape old new
  pub written_whole : IsWrittenWhole vectors made.list (length first_draft.inputs + length second_draft.inputs) all_vectors rows old new
  pub covers_every_fault : (f : Faults) → Explains f new.rig → Covers shape made.list.list f
  pub uses_nothing_listed : UsesNothingListed made.list image new.rig
  -- a pin for each input of the first design and then of the second, and so for each output, all different
  pub inputs : length image.inputs ≡ length first_draft.inputs + length second_draft.inputs
  pub outputs : length image.outputs ≡ length first_draft.outputs + length second_draft.outputs
  -- no table is on and no crosspoint closed that isn't needed
  pub routed : IsRoutedForBoth made.list first_draft second_draft image
  -- for all vectors, and under all faults that the list covers, the readings are the rows of both designs side by side
  pub image_right : (f : Faults) → Covers shape made.list.list f → ReadsRows f image (AreBothRows first_draft second_draft)
  pub as_the_machine_read : IsAsRead image all_vectors rows new.rig
  -- and so are the rows that were written
  pub exactly_the_outputs : (f : Faults) → Explains f new.rig → AreBothRows first_draft second_draft all_vectors rows
  -- each design runs as it would alone
  pub first_image : ImageValue
  pub second_image : ImageValue
  pub tenants : AreTenants image first_image second_image
  pub apart : (f : Faults) → Covers shape made.list.list f → StandApart f image first_image second_image
  pub first_right : (f : Faults) → Covers shape made.list.list f → IsRightImage f first_image first_draft
  pub second_right : (f : Faults) → Covers shape made.list.list f → IsRightImage f second_image second_draft
  -- whatever the listed parts do, at any time: where the list covers the faults of each instant of a history, and the session's
  -- readings are the run over it, the rows are those of both designs
  pub listed_parts_at_will : (h : History) → IsHistoryOf shape h →
      ((cycle instant : ℕ) → Covers shape made.list.list (h cycle instant)) →
      IsRunOver h image.config (drives_of (cycles_of new.rig)) (readings_of (cycles_of new.rig)) →
      AreBothRows first_draft second_draft all_vectors rows
  -- and each design's part of the rows is right as long as what is its own is left alone
  pub first_while_alone : AreRightWhileAlone new.rig image first_image first_draft (map (take (length first_draft.inputs)) all_vectors)
      (map (take (length first_draft.outputs)) rows)
  pub second_while_alone : AreRightWhileAlone new.rig image second_image second_draft
      (map (drop (length first_draft.inputs)) all_vectors) (map (drop (length first_draft.outputs)) rows)
  -- the list is tight besides, and so fair; few loads were made for it, and exactly one after it
  pub tight : (f : Faults) → Explains f new.rig → IsTight shape made.list.list f
  pub fair : (f : Faults) → Explains f new.rig → IsFair shape made.list.list f
  pub few : TakesFewLoadsOn new.rig shape old.rig.loads made.loads
  pub loaded_once : new.rig.loads ≡ next_count made.loads

-- The in-order plan of the joint network of the plain networks of the two designs fits the list that stands written
pub record HaveRoomLeft (machine first second : List ℕ) (old new : Outside) : Type 0 where
  pub first_draft : NetlistData
  pub second_draft : NetlistData
  pub list : DefectList
  pub rest : List ℕ
  pub machine_is : IfTold (old.store.contents machine) (λ bytes. IsMachineText bytes list.shape)
  pub first_is : IfTold (old.store.contents first) (λ bytes. IsDesignText bytes first_draft)
  pub second_is : IfTold (old.store.contents second) (λ bytes. IsDesignText bytes second_draft)
  pub is_list : IsDefectList list
  pub written : Wrote old.sink.written new.sink.written (text_of list ++ rest)
  pub room : BothHaveRoom list first_draft second_draft
