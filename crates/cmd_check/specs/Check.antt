-- What the command `check` is.
use Rattle.std.specs.Prelude.{◌≡◌, ℕ, Bool, true, false, List, [], ◌∷◌}
use Rattle.base_io.specs.Vocabulary.{Told, StoreState}
use Rattle.machine_shape.specs.declared.Shape.{Shape}
use Rattle.machine_text.specs.Machine.{IsMachine}
use Rattle.machine_defects.specs.Lists.{DefectList}
use Rattle.machine_image.specs.Images.{ImageValue}
use Rattle.rig.specs.Rig.{RigState}
use Rattle.cmd_steps.specs.Vocabulary.{Around, StandsIn, Course, Step, after, write, done, Unloaded, machine_attached, IsImageText}
use Rattle.cmd_steps.specs.Vocabulary.{IsRightFile, reads_machine, reads_image, AsksMachine, Job, quiet}
use Rattle.cmd_steps.specs.declared.refusal.Refusal.{Refusal}
use Rattle.cmd_steps.specs.declared.refusal.Refusal.TheVariants as refused
use Rattle.diag_list.specs.Lists.{Listed, lists}
use Rattle.cmd_check.specs.{Answers.IsAnswer, Answers.answer_line, Testing.Tried, Testing.tests, declared.answer.Answer.TheVariants.Sound}
use Rattle.cmd_check.specs.declared.answer.Answer.{Answer}

-- ---- the steps

-- memory is lacking
abbrev pub Lacks : Refusal → Type 0
Lacks refused.Memory = Unit {0}
Lacks refusal = ⊥

-- it is looked what the list says of the image
abbrev pub answers : DefectList → ImageValue → Step Answer
answers d i = record { stops = Lacks; gives = IsAnswer d i }

-- the store stands in one of these files, and so many loads were made
abbrev pub StandsLoaded : (files : List (List ℕ)) → (begun ended : StoreState) → RigState → ℕ → Type 0
StandsLoaded files begun ended rig loads = StandsIn files begun ended × (rig.loads ≡ loads)

-- The answer is written, and no load follows
abbrev pub answer_written : (files : List (List ℕ)) → (begun ended : StoreState) → RigState → ℕ → ImageValue → Answer → Course
answer_written files begun ended rig loads i a =
    write (answer_line i.config.shape a) (StandsLoaded files begun ended rig loads) (done (StandsLoaded files begun ended rig loads))

-- By the list the answer is found and written
abbrev pub image_looked_at : (files : List (List ℕ)) → (begun ended : StoreState) → RigState → ImageValue → Listed → Course
image_looked_at files begun ended rig i l =
    after (answers l.list i) (StandsLoaded files begun ended rig l.loads) (answer_written files begun ended rig l.loads i)

-- The defects of the machine are listed, and the image is looked at by the list
abbrev pub machine_listed : (files : List (List ℕ)) → (begun ended : StoreState) → RigState → ImageValue → Tried → Course
machine_listed files begun ended rig i t =
    after (lists i.config.shape t.loads rig) (StandsIn files begun ended) (image_looked_at files begun ended rig i)

-- by what the test found
abbrev pub by_test : (sound : Bool) → (this that : Course) → Course
by_test true this that = this
by_test false this that = that

-- What is found sound is answered so. Otherwise the machine is listed
abbrev pub image_tried : (files : List (List ℕ)) → (begun ended : StoreState) → RigState → ImageValue → Tried → Course
image_tried files begun ended rig i t =
    by_test t.sound (answer_written files begun ended rig t.loads i Sound) (machine_listed files begun ended rig i t)

-- The image is tested, from so many loads on
abbrev pub image_tested : (files : List (List ℕ)) → (begun ended : StoreState) → RigState → (before : ℕ) → ImageValue → Course
image_tested files begun ended rig before i =
    after (tests i before rig) (StandsIn files begun ended) (image_tried files begun ended rig i)

-- The image is read and tested
abbrev pub image_read : (machine image : List ℕ) → Around → Around → Shape → Course
image_read machine image old new m =
    after (reads_image (old.store.contents image) m) (Unloaded (image ∷ machine ∷ []) old new)
    (image_tested (image ∷ machine ∷ []) old.store new.store new.rig old.rig.loads)

-- The machine is read and attached, and the image is read and tested. No load is made before
abbrev pub check_course : (machine name image : List ℕ) → Around → Around → Course
check_course machine name image old new = machine_attached machine name old new (image_read machine image old new)

-- ---- the files

-- what is told of the files
pub record CheckFiles : Type 0 where
  pub machine : Told
  pub image : Told

abbrev pub check_files : StoreState → (machine image : List ℕ) → CheckFiles
check_files old machine image = record { machine = old.contents machine; image = old.contents image }

-- both files are told and right
pub record CheckRight (t : CheckFiles) : Type 0 where
  pub shape : Shape
  pub image : ImageValue
  pub machine : IsRightFile t.machine (λ bytes. IsMachine bytes shape.counts)
  pub file : IsRightFile t.image (λ bytes. IsImageText shape bytes image)

-- ---- the command

abbrev pub check_job : (machine name image : List ℕ) → Job
check_job machine name image =
    quiet (machine ∷ image ∷ [])
    (λ old new. AsksMachine (reads_machine (old.store.contents machine)).gives name old.rig.machine.asked new.rig.machine.asked)
    (check_course machine name image)
    (λ old. CheckRight (check_files old.store machine image))
