-- What the command `compile` is.
use Rattle.std.specs.Prelude.{◌≡◌, ℕ, true, List, [], ◌∷◌}
use Rattle.base_io.specs.Vocabulary.{Told, StoreState}
use Rattle.machine_shape.specs.Limits.{is_small}
use Rattle.machine_text.specs.Machine.{IsMachine}
use Rattle.machine_defects.specs.Vocabulary.{DefectList, IsText}
use Rattle.design_netlist.specs.declared.netlist_data.NetlistData.{NetlistData}
use Rattle.design_blif.specs.Designs.{IsDesign}
use Rattle.machine_image.specs.Images.{ImageValue, image_bytes}
use Rattle.cmd_steps.specs.Vocabulary.{ReadFile, StandsAmong, plain_file, Course, after, write, done, listed_course, IsRightFile, IsRightList, reads_design, Job}
use Rattle.cmd_steps.specs.declared.design_file.DesignFile.TheVariants.{Design}
use Rattle.place_design.specs.Laying.{lays, HasRoom, LacksRoom}

-- ---- the steps

-- The bytes of an image are written at one go
abbrev pub image_written : (files : List ReadFile) → StoreState → StoreState → ImageValue → Course
image_written files old new i = write (image_bytes i) (StandsAmong files old new) (done (StandsAmong files old new))

-- The design is laid on what the list leaves free, and its image is written
abbrev pub design_laid : (files : List ReadFile) → StoreState → StoreState → DefectList → NetlistData → Course
design_laid files old new d draft = after (lays d draft) (StandsAmong files old new) (image_written files old new)

-- The design is read and laid. These files were read before, the last first
abbrev pub design_read : (design : List ℕ) → (files : List ReadFile) → StoreState → StoreState → DefectList → Course
design_read design files old new d =
    after (reads_design Design (old.contents design)) (StandsAmong (plain_file design ∷ files) old new)
    (design_laid (plain_file design ∷ files) old new d)

-- The machine is read, then the list and the design, which is laid
abbrev pub compile_course : (machine defects design : List ℕ) → StoreState → StoreState → Course
compile_course machine defects design = listed_course (λ told m. reads_design Design told) design_laid machine defects design

-- ---- the files

-- what is told of the files
pub record CompileFiles : Type 0 where
  pub machine : Told
  pub defects : Told
  pub design : Told

-- all files are told and right
pub record AreRightFiles (t : CompileFiles) : Type 0 where
  pub list : DefectList
  pub draft : NetlistData
  pub machine : IsRightFile t.machine (λ bytes. IsMachine bytes list.shape.counts)
  pub defects : IsRightList t.defects list.shape (λ bytes. IsText list.shape bytes list)
  pub design : IsRightFile t.design (λ bytes. IsDesign bytes draft)

-- and there is room for the design
pub record CompileRight (t : CompileFiles) : Type 0 where
  pub files : AreRightFiles t
  pub room : HasRoom files.list files.draft

-- or there is none, and the machine is small
pub record CompileShort (t : CompileFiles) : Type 0 where
  pub files : AreRightFiles t
  pub small : is_small files.list.shape.counts ≡ true
  pub lacks : LacksRoom files.list files.draft

abbrev pub compile_files : StoreState → (machine defects design : List ℕ) → CompileFiles
compile_files old machine defects design =
    record { machine = old.contents machine; defects = old.contents defects; design = old.contents design }

-- ---- the command

abbrev pub compile_job : (machine defects design : List ℕ) → Job
compile_job machine defects design = record {
  files = machine ∷ defects ∷ design ∷ [];
  asks = λ old new. new.rig ≡ old.rig;
  course = λ old new. compile_course machine defects design old.store new.store;
  right = λ old new front. CompileRight (compile_files old.store machine defects design);
  short = λ old new front. CompileShort (compile_files old.store machine defects design);
  few = λ old new. Unit {0};
  has_begun = λ old new text. ⊥;
}
