-- What the command `repair` is.
use Rattle.std.specs.Prelude.{◌≡◌, ℕ, ◌≤◌, List, [], ◌∷◌}
use Rattle.std.specs.FinSet as set
use Rattle.base_io.specs.Vocabulary.{Told, StoreState}
use Rattle.machine_shape.specs.{declared.Shape.Shape, Vocabulary.most_repaired}
use Rattle.machine_text.specs.Machine.{IsMachine}
use Rattle.machine_defects.specs.Vocabulary.{DefectList, IsText}
use Rattle.machine_image.specs.Images.{ImageValue, image_bytes}
use Rattle.cmd_steps.specs.Vocabulary.{ReadFile, StandsAmong, plain_file, Course, after, write, done, listed_course, IsImageText, IsRightFile}
use Rattle.cmd_steps.specs.Vocabulary.{IsRightList, reads_image, Job}
use Rattle.cmd_repair.specs.Repairing.{takes_few, repairs, HasPlanRoom, LacksPlanRoom}

-- ---- the steps

-- The bytes of the new image are written at one go
abbrev pub image_written : (files : List ReadFile) → StoreState → StoreState → ImageValue → Course
image_written files old new i = write (image_bytes i) (StandsAmong files old new) (done (StandsAmong files old new))

-- The image is repaired on what the list leaves free, and the new one is written
abbrev pub image_repaired : (files : List ReadFile) → StoreState → StoreState → DefectList → ImageValue → Course
image_repaired files old new d i = after (repairs d i) (StandsAmong files old new) (image_written files old new)

-- The image has few enough crosspoints, and is repaired
abbrev pub image_taken : (files : List ReadFile) → StoreState → StoreState → DefectList → ImageValue → Course
image_taken files old new d i = after (takes_few i) (StandsAmong files old new) (λ _. image_repaired files old new d i)

-- The image is read and taken. These files were read before, the last first
abbrev pub file_taken : (image : List ℕ) → (files : List ReadFile) → StoreState → StoreState → Shape → DefectList → Course
file_taken image files old new m d =
    after (reads_image (old.contents image) m) (StandsAmong (plain_file image ∷ files) old new)
    (image_taken (plain_file image ∷ files) old new d)

-- The machine is read, then the list and the image, which is taken
abbrev pub repair_course : (machine defects image : List ℕ) → StoreState → StoreState → Course
repair_course machine defects image = listed_course reads_image image_taken machine defects image

-- ---- the files

-- what is told of the files
pub record RepairFiles : Type 0 where
  pub machine : Told
  pub defects : Told
  pub image : Told

-- all files are told and right, and the image has few enough crosspoints
pub record AreRightFiles (t : RepairFiles) : Type 0 where
  pub list : DefectList
  pub image : ImageValue
  pub machine : IsRightFile t.machine (λ bytes. IsMachine bytes list.shape.counts)
  pub defects : IsRightList t.defects list.shape (λ bytes. IsText list.shape bytes list)
  pub file : IsRightFile t.image (λ bytes. IsImageText list.shape bytes image)
  pub few : set.len image.config.closed ≤ most_repaired image.config.shape

-- and there is room for the repair
pub record RepairRight (t : RepairFiles) : Type 0 where
  pub files : AreRightFiles t
  pub room : HasPlanRoom files.list files.image

-- or there is none
pub record RepairShort (t : RepairFiles) : Type 0 where
  pub files : AreRightFiles t
  pub lacks : LacksPlanRoom files.list files.image

abbrev pub repair_files : StoreState → (machine defects image : List ℕ) → RepairFiles
repair_files old machine defects image =
    record { machine = old.contents machine; defects = old.contents defects; image = old.contents image }

-- ---- the command

abbrev pub repair_job : (machine defects image : List ℕ) → Job
repair_job machine defects image = record {
  files = machine ∷ defects ∷ image ∷ [];
  asks = λ old new. new.rig ≡ old.rig;
  course = λ old new. repair_course machine defects image old.store new.store;
  right = λ old new front. RepairRight (repair_files old.store machine defects image);
  short = λ old new front. RepairShort (repair_files old.store machine defects image);
  few = λ old new. Unit {0};
  has_begun = λ old new text. ⊥;
}
