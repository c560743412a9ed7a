-- What a `twice` has done: when it is done, where the copies differ, and wherever it ends.
use Rattle.std.specs.Prelude.{◌≡◌, ◌⊎◌, ℕ, ◌+◌, ◌<◌, Bool, List, [], ◌∷◌, ◌++◌, map, length, take, Some}
use Rattle.base_io.specs.Vocabulary.{next_count, IfTold, Rose, Wrote}
use Rattle.machine_shape.specs.declared.Shape.{Shape}
use Rattle.machine_meaning.specs.Vocabulary.{Faults, Covers, IsFair, IsTight}
use Rattle.machine_defects.specs.Vocabulary.{DefectList, IsDefectList, text_of}
use Rattle.design_netlist.specs.{declared.netlist_data.NetlistData.NetlistData, Rows.AreRows}
use Rattle.machine_image.specs.Images.{ImageValue, drive_of, image_row}
use Rattle.machine_history.specs.Vocabulary.{History, IsHistoryOf, IsRunOver, LeavesAloneFor}
use Rattle.rig.specs.Rig.{RigState, Explains, config_of, cycles_of, drives_of, readings_of}
use Rattle.place_route.specs.Vocabulary.{IsRightImage, ReadsRows}
use Rattle.place_pair.specs.Tenants.{AreTenants, StandApart}
use Rattle.place_both.specs.Both.{AreBothRows, BothHaveRoom, IsImageForBoth, IsRoutedForBoth}
use Rattle.cmd_steps.specs.Vocabulary.{AreFirst, outputs_line, output_text, Outside, refusal_text, IsMachineText, IsDesignText}
use Rattle.cmd_steps.specs.declared.refusal.Refusal.{Refusal, TheVariants.Differ}
use Rattle.diag_list.specs.{Possible.TakesFewLoadsOn, Lists.Listed}
use Rattle.run_image.specs.{Copying.all_repeated, Copying.HalvesDiffer, declared.copies.Copies.TheVariants.Two}
use Rattle.run_image.specs.Headline.{IsListOfMachine, IsAskedInOrder, IsWrittenWhole, UsesNothingListed, IsAsRead}

-- ---- as long as one copy is left alone

-- the rows are the first of the design's rows for these vectors
abbrev pub AreFirstRows : NetlistData → (vectors rows : List (List Bool)) → Type 0
AreFirstRows draft vectors rows = (right : List (List Bool)) × AreRows draft vectors right × (rows ≡ take (length rows) right)

-- So they are where the session's readings are a run over a history that leaves one and the same copy alone for as many cycles as
-- there are rows, whatever is done to the other copy and to all else, at any time
abbrev pub AreRightWhileOneIsAlone : RigState → (image first second : ImageValue) → NetlistData → (vectors rows : List (List Bool)) → Type 0
AreRightWhileOneIsAlone rig image first second draft vectors rows = (h : History) →
    LeavesAloneFor (length rows) h image first ⊎ LeavesAloneFor (length rows) h image second →
    IsRunOver h image.config (drives_of (cycles_of rig)) (readings_of (cycles_of rig)) → AreFirstRows draft vectors rows

-- ---- the rows that stand written, wherever it ends

-- Two copies of the design are laid on what the list leaves free, and the session's configuration is that of their image. It has
-- driven these vectors on the input pins of both copies, and 1 elsewhere, and its first readings at the output pins of both are the
-- rows. They are right as long as one copy is left alone, and under each set of faults that explains all that was read
pub record AreReadByBoth (list : DefectList) (draft : NetlistData) (driven rows : List (List Bool)) (rig : RigState) : Type 0 where
  pub image : ImageValue
  pub laid : IsImageForBoth list draft draft image
  pub config : config_of rig ≡ Some image.config
  pub drives : drives_of (cycles_of rig) ≡ map (drive_of image) (all_repeated Two driven)
  pub readings : take (length rows) (map (image_row image) (readings_of (cycles_of rig))) ≡ all_repeated Two rows
  pub one_copy_is_enough : AreRightWhileOneIsAlone rig image laid.first_image laid.second_image draft driven rows
  pub exactly_the_outputs : (f : Faults) → Explains f rig → AreFirstRows draft driven rows

-- the list is one of the machine, and these vectors are the first of the file, of the width of the design
pub record AreOfFiles (machine name design vectors : List ℕ) (old new : Outside) (made : Listed) (draft : NetlistData)
    (driven : List (List Bool)) : Type 0 where
  pub list : IsListOfMachine machine name old new made
  pub design_is : IfTold (old.store.contents design) (λ bytes. IsDesignText bytes draft)
  pub first : AreFirst (length draft.inputs) (old.store.contents vectors) driven

-- What stands written wherever it ends
pub data StandsTwice (machine name design vectors : List ℕ) (old new : Outside) : Type 0 where
  -- nothing, or as much of the line of a refusal
  nothing : (refusal : Refusal) (n : ℕ) → Wrote old.sink.written new.sink.written (take n (refusal_text refusal))
      → StandsTwice machine name design vectors old new
  -- as much of a list's text and the line `outputs`, and then perhaps as much of the line of a refusal
  no_rows : (made : Listed) (front rest : List ℕ) (refusal : Refusal) (n : ℕ) → IsListOfMachine machine name old new made
      → text_of made.list ++ outputs_line ≡ front ++ rest
      → Wrote old.sink.written new.sink.written (front ++ take n (refusal_text refusal)) → StandsTwice machine name design vectors old new
  -- both, and rows that are the design's under each set of faults that explains all that was read, and that both copies have read,
  -- unless the rig has failed; and then whatever follows them
  some_rows : (made : Listed) (draft : NetlistData) (driven rows : List (List Bool)) (rest : List ℕ)
      → AreOfFiles machine name design vectors old new made draft driven
      → Wrote old.sink.written new.sink.written (text_of made.list ++ (output_text rows ++ rest))
      → ((f : Faults) → Explains f new.rig → AreFirstRows draft driven rows)
      → AreReadByBoth made.list draft driven rows new.rig ⊎ Rose old.rig.failures new.rig.failures
      → StandsTwice machine name design vectors old new

-- ---- the copies differ

-- The rows that both copies have read were written, and then the line of the refusal. The session has a reading behind these, for the
-- next vector, and its halves differ; there may be more, of vectors that were driven with it. So no set of faults explains all that was
-- read: the machine has changed
pub record ReadDifferently (machine name design vectors : List ℕ) (old new : Outside) : Type 0 where
  pub made : Listed
  pub draft : NetlistData
  pub driven : List (List Bool)
  pub rows : List (List Bool)
  pub reading : List Bool
  pub read_behind : List (List Bool)
  pub files : AreOfFiles machine name design vectors old new made draft driven
  pub count : length rows < length driven
  pub written : Wrote old.sink.written new.sink.written (text_of made.list ++ (output_text rows ++ refusal_text Differ))
  pub read : AreReadByBoth made.list draft driven rows new.rig
  pub readings_are : map (image_row read.image) (readings_of (cycles_of new.rig)) ≡ all_repeated Two rows ++ reading ∷ read_behind
  pub halves : HalvesDiffer reading
  pub no_false_alarm : (f : Faults) → Explains f new.rig → ⊥

-- ---- all is done

-- Of the rig's one session: its configuration, with a list of input pins and a list of output pins, is `image`. The two copies in it,
-- `first_image` and `second_image`, share no wire
pub record IsDoneTwice (machine name design vectors : List ℕ) (old new : Outside) : Type 0 where
  pub shape : Shape
  pub draft : NetlistData
  pub made : Listed
  pub image : ImageValue
  pub all_vectors : List (List Bool)
  pub rows : List (List Bool)
  pub design_is : IfTold (old.store.contents design) (λ bytes. IsDesignText bytes draft)
  pub list_shape : made.list.shape ≡ shape
  pub asked_in_order : IsAskedInOrder machine name (design ∷ vectors ∷ []) shape old new
  pub written_whole : IsWrittenWhole vectors made.list (length draft.inputs) all_vectors rows old new
  pub covers_every_fault : (f : Faults) → Explains f new.rig → Covers shape made.list.list f
  pub uses_nothing_listed : UsesNothingListed made.list image new.rig
  -- a pin of each copy for each input of the design, and so for each output, all different
  pub inputs : length image.inputs ≡ length draft.inputs + length draft.inputs
  pub outputs : length image.outputs ≡ length draft.outputs + length draft.outputs
  -- no table is on and no crosspoint closed that the copies don't need
  pub routed : IsRoutedForBoth made.list draft draft image
  -- for all vectors of the two copies, equal or not, the readings are the rows of both side by side
  pub image_right : (f : Faults) → Covers shape made.list.list f → ReadsRows f image (AreBothRows draft draft)
  -- the session has a cycle for each vector, driven on the input pins of both copies, and each row is both halves of its reading
  pub as_the_machine_read : IsAsRead image (all_repeated Two all_vectors) (all_repeated Two rows) new.rig
  pub exactly_the_outputs : (f : Faults) → Explains f new.rig → AreRows draft all_vectors rows
  -- each copy runs as it would alone
  pub first_image : ImageValue
  pub second_image : ImageValue
  pub tenants : AreTenants image first_image second_image
  pub apart : (f : Faults) → Covers shape made.list.list f → StandApart f image first_image second_image
  pub first_right : (f : Faults) → Covers shape made.list.list f → IsRightImage f first_image draft
  pub second_right : (f : Faults) → Covers shape made.list.list f → IsRightImage f second_image draft
  -- whatever the listed parts do, at any time: where the list covers the faults of each instant of a history, and the session's
  -- readings are the run over it, the rows are those of the design
  pub listed_parts_at_will : (h : History) → IsHistoryOf shape h →
      ((cycle instant : ℕ) → Covers shape made.list.list (h cycle instant)) →
      IsRunOver h image.config (drives_of (cycles_of new.rig)) (readings_of (cycles_of new.rig)) → AreRows draft all_vectors rows
  -- and so they are where one and the same copy is left alone, whatever is done to the other and to all else
  pub one_copy_is_enough : AreRightWhileOneIsAlone new.rig image first_image second_image draft all_vectors rows
  -- the list is tight besides, and so fair; few loads were made for it, and exactly one after it
  pub tight : (f : Faults) → Explains f new.rig → IsTight shape made.list.list f
  pub fair : (f : Faults) → Explains f new.rig → IsFair shape made.list.list f
  pub few : TakesFewLoadsOn new.rig shape old.rig.loads made.loads
  pub loaded_once : new.rig.loads ≡ next_count made.loads

-- The in-order plan of the joint network of the design's plain network and itself fits the list that stands written
pub record HasRoomLeft (machine design : List ℕ) (old new : Outside) : Type 0 where
  pub draft : NetlistData
  pub list : DefectList
  pub rest : List ℕ
  pub machine_is : IfTold (old.store.contents machine) (λ bytes. IsMachineText bytes list.shape)
  pub design_is : IfTold (old.store.contents design) (λ bytes. IsDesignText bytes draft)
  pub is_list : IsDefectList list
  pub written : Wrote old.sink.written new.sink.written (text_of list ++ rest)
  pub room : BothHaveRoom list draft draft
