-- What such a command has done: whatever its end, and when it is done.
use Rattle.std.specs.Prelude.{◌≡◌, ℕ, Bool, List, ◌∷◌, ◌++◌, map, length, take, Some}
use Rattle.base_io.specs.Vocabulary.{IfTold, Wrote}
use Rattle.machine_shape.specs.declared.Shape.{Shape}
use Rattle.machine_defects.specs.Vocabulary.{DefectList, IsDefectList, text_of}
use Rattle.machine_image.specs.Vocabulary.{ImageValue, IsImage, drive_of, image_row, IsFreeImage}
use Rattle.rig.specs.Rig.{RigState, config_of, cycles_of, drives_of, readings_of}
use Rattle.cmd_steps.specs.Vocabulary.{AreAll, output_text, Outside, refusal_text, IsMachineText}
use Rattle.cmd_steps.specs.declared.refusal.Refusal.{Refusal}
use Rattle.diag_list.specs.Lists.{Listed, IsListed}

-- ---- whatever the end

-- the list is one of the machine of the text, which is attached under the name: it covers each set of faults that explains what was
-- read and is tight to it, and so fair
pub record IsListOfMachine (machine name : List ℕ) (old new : Outside) (made : Listed) : Type 0 where
  pub shape : Shape
  pub machine_is : IfTold (old.store.contents machine) (λ bytes. IsMachineText bytes shape)
  pub attached : new.rig.machine.attached ≡ Some (record { shape = shape; name = name })
  pub is_listed : IsListed shape old.rig.loads new.rig made

-- What stands written begins with such a list, so far as it goes
pub data BeginsWithList (machine name : List ℕ) (old new : Outside) : Type 0 where
  -- nothing stands there, or as much of the line of a refusal
  none : (refusal : Refusal) (n : ℕ) → Wrote old.sink.written new.sink.written (take n (refusal_text refusal))
      → BeginsWithList machine name old new
  -- as much of the list's text
  part : (made : Listed) (n : ℕ) → IsListOfMachine machine name old new made
      → Wrote old.sink.written new.sink.written (take n (text_of made.list)) → BeginsWithList machine name old new
  -- that text, and whatever follows it
  whole : (made : Listed) (rest : List ℕ) → IsListOfMachine machine name old new made
      → Wrote old.sink.written new.sink.written (text_of made.list ++ rest) → BeginsWithList machine name old new

-- ---- all is done

-- the file of the machine is asked for and then these, in this order, and the machine of the text is attached under the name
pub record IsAskedInOrder (machine name : List ℕ) (files : List (List ℕ)) (shape : Shape) (old new : Outside) : Type 0 where
  pub asked : new.store.asked ≡ old.store.asked ++ machine ∷ files
  pub machine_is : IfTold (old.store.contents machine) (λ bytes. IsMachineText bytes shape)
  pub attached : new.rig.machine.attached ≡ Some (record { shape = shape; name = name })

-- the text of one list, the line `outputs` and a row for each vector are written, and the vectors were read to their end
pub record IsWrittenWhole (vectors : List ℕ) (list : DefectList) (width : ℕ) (all_vectors rows : List (List Bool))
    (old new : Outside) : Type 0 where
  pub is_list : IsDefectList list
  pub are_all : AreAll width (old.store.contents vectors) all_vectors
  pub count : length rows ≡ length all_vectors
  pub written : Wrote old.sink.written new.sink.written (text_of list ++ output_text rows)

-- the session's configuration, with the pins of the image, is an image of the machine, and uses nothing that is listed
pub record UsesNothingListed (list : DefectList) (image : ImageValue) (rig : RigState) : Type 0 where
  pub is_image : IsImage image
  pub shape : image.config.shape ≡ list.shape
  pub config : config_of rig ≡ Some image.config
  pub free : IsFreeImage list.list image

-- the session has a cycle for each vector, which it drove, and the rows are what it read
pub record IsAsRead (image : ImageValue) (all_vectors rows : List (List Bool)) (rig : RigState) : Type 0 where
  pub drives : drives_of (cycles_of rig) ≡ map (drive_of image) all_vectors
  pub rows_are : rows ≡ map (image_row image) (readings_of (cycles_of rig))
