-- How commands begin: a machine is read, and it is attached, or a list of its defects and one more file are read.
use Rattle.std.specs.Prelude.{◌≡◌, ℕ, List, [], ◌∷◌}
use Rattle.base_io.specs.Vocabulary.{Told, StoreState}
use Rattle.machine_shape.specs.declared.Shape.{Shape}
use Rattle.machine_defects.specs.Lists.{DefectList}
use Rattle.cmd_steps.specs.Outside.{Around, ReadFile, StandsAmong, StandsIn, list_file, plain_file}
use Rattle.cmd_steps.specs.{Courses.Course, Courses.Step, Courses.after, Texts.reads_machine, Texts.reads_defects, Texts.attaches}

-- before the first load: where the store stands, and no load was made
abbrev pub Unloaded : List (List ℕ) → Around → Around → Type 0
Unloaded files old new = StandsIn files old.store new.store × (new.rig.loads ≡ old.rig.loads)

-- A machine is read and attached under a name, and no load is made. What follows is of its shape
abbrev pub machine_attached : (machine name : List ℕ) → (old new : Around) → (rest : Shape → Course) → Course
machine_attached machine name old new rest =
    after (reads_machine (old.store.contents machine)) (Unloaded (machine ∷ []) old new) (λ m.
    after (attaches (record { shape = m; name = name }) old.rig new.rig) (Unloaded (machine ∷ []) old new) (λ _. rest m))

-- a machine and a list of its defects were read, and then one more file; the last first
abbrev pub list_files : (machine defects : List ℕ) → Shape → List ReadFile
list_files machine defects m = list_file m defects ∷ plain_file machine ∷ []

abbrev pub third_files : (machine defects file : List ℕ) → Shape → List ReadFile
third_files machine defects file m = plain_file file ∷ list_files machine defects m

-- A machine, a list of its defects and one more file are read, and what follows is of the list and what the file gave
module _ {T : Type 0} (third : Told → Shape → Step T)
    (rest : (files : List ReadFile) → (begun ended : StoreState) → DefectList → T → Course) (machine defects file : List ℕ) where
  -- the file is read after the list
  abbrev pub behind_list : (begun ended : StoreState) → Shape → DefectList → Course
  behind_list begun ended m d =
      after (third (begun.contents file) m) (StandsAmong (third_files machine defects file m) begun ended)
      (rest (third_files machine defects file m) begun ended d)

  -- the list is read after the machine
  abbrev pub behind_machine : (begun ended : StoreState) → Shape → Course
  behind_machine begun ended m =
      after (reads_defects (begun.contents defects) m) (StandsAmong (list_files machine defects m) begun ended)
      (behind_list begun ended m)

  abbrev pub listed_course : (begun ended : StoreState) → Course
  listed_course begun ended =
      after (reads_machine (begun.contents machine)) (StandsIn (machine ∷ []) begun ended) (behind_machine begun ended)
