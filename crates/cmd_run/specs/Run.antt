-- What the command `run` is.
use Rattle.std.specs.Prelude.{◌≡◌, ℕ, ◌≤◌, List, [], ◌∷◌, ◌++◌, length}
use Rattle.base_io.specs.Told.{Told}
use Rattle.machine_shape.specs.declared.Shape.{Shape}
use Rattle.machine_text.specs.Machine.{IsMachine}
use Rattle.machine_image.specs.Images.{ImageValue}
use Rattle.cmd_steps.specs.Vocabulary.{AreRightVectors, vectors_at, outputs_line, Around, Course, after, Unloaded, machine_attached}
use Rattle.cmd_steps.specs.Vocabulary.{IsImageText, IsRightFile, reads_machine, reads_image, AsksMachine, Job}
use Rattle.run_image.specs.Rows.{most_rows, image_rows, image_course}

-- The image is loaded by one load, and its rows are written
abbrev pub image_run : (machine image vectors : List ℕ) → Around → Around → ImageValue → Course
image_run machine image vectors old new i =
    image_course (image_rows i (old.store.contents vectors) new.store old.rig.failures new.rig)
    (record { image = i; vectors = vectors; files = image ∷ machine ∷ []; begun = old.store; before = old.rig.loads }) new

-- The image is read and run
abbrev pub image_read : (machine image vectors : List ℕ) → Around → Around → Shape → Course
image_read machine image vectors old new m =
    after (reads_image (old.store.contents image) m) (Unloaded (image ∷ machine ∷ []) old new)
    (image_run machine image vectors old new)

-- The machine is read and attached, and the image is read and run
abbrev pub run_course : (machine name image vectors : List ℕ) → Around → Around → Course
run_course machine name image vectors old new = machine_attached machine name old new (image_read machine image vectors old new)

-- what is told of the files
pub record RunFiles : Type 0 where
  pub machine : Told
  pub image : Told
  pub vectors : Told

abbrev pub run_files : Around → (machine image vectors : List ℕ) → RunFiles
run_files old machine image vectors =
    record { machine = old.store.contents machine; image = old.store.contents image; vectors = old.store.contents vectors }

-- all files are told and right
pub record RunRight (t : RunFiles) : Type 0 where
  pub shape : Shape
  pub image : ImageValue
  pub machine : IsRightFile t.machine (λ bytes. IsMachine bytes shape.counts)
  pub file : IsRightFile t.image (λ bytes. IsImageText shape bytes image)
  pub vectors : AreRightVectors t.vectors (length image.inputs)

-- and there are no more vectors than there is room for
pub record RunFew (t : RunFiles) : Type 0 where
  pub right : RunRight t
  pub few : length (vectors_at (length right.image.inputs) right.vectors.bytes) ≤ most_rows

abbrev pub run_job : (machine name image vectors : List ℕ) → Job
run_job machine name image vectors = record {
  files = machine ∷ image ∷ vectors ∷ [];
  asks = λ old new. AsksMachine (reads_machine (old.store.contents machine)).gives name old.rig.machine.asked new.rig.machine.asked;
  course = run_course machine name image vectors;
  right = λ old new front. RunRight (run_files old machine image vectors);
  short = λ old new front. ⊥;
  few = λ old new. RunFew (run_files old machine image vectors);
  has_begun = λ old new text. (more : List ℕ) × (text ≡ outputs_line ++ more);
}
