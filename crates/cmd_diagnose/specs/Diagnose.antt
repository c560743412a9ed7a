-- What the command `diagnose` is.
use Rattle.std.specs.Prelude.{◌≡◌, ℕ, List, [], ◌∷◌}
use Rattle.base_io.specs.Told.{Told}
use Rattle.machine_shape.specs.declared.Shape.{Shape}
use Rattle.machine_text.specs.Machine.{IsMachine}
use Rattle.machine_defects.specs.Text.{text_of}
use Rattle.cmd_steps.specs.Vocabulary.{Around, StandsIn, Course, after, write, done, machine_attached, IsRightFile, reads_machine}
use Rattle.cmd_steps.specs.Vocabulary.{AsksMachine, Job, quiet}
use Rattle.diag_list.specs.{Lists.Listed, Lists.lists, Possible.MakesFewCycles}

-- The list is written, and no load follows on those that it took
abbrev pub list_written : (machine : List ℕ) → Around → Around → Listed → Course
list_written machine old new l =
    write (text_of l.list) (StandsIn (machine ∷ []) old.store new.store × (new.rig.loads ≡ l.loads))
    (done (StandsIn (machine ∷ []) old.store new.store × (new.rig.loads ≡ l.loads)))

-- The defects of the machine are listed, with few loads, and the list is written
abbrev pub machine_listed : (machine : List ℕ) → Around → Around → Shape → Course
machine_listed machine old new m =
    after (lists m old.rig.loads new.rig) (StandsIn (machine ∷ []) old.store new.store) (list_written machine old new)

-- The machine is read, attached and listed. No load is made before
abbrev pub diagnose_course : (machine name : List ℕ) → Around → Around → Course
diagnose_course machine name old new = machine_attached machine name old new (machine_listed machine old new)

-- the text of the machine is told and right
pub record DiagnoseRight (machine : Told) : Type 0 where
  pub shape : Shape
  pub text : IsRightFile machine (λ bytes. IsMachine bytes shape.counts)

-- no machine but this one is asked of the rig, and few cycles for each load
abbrev pub DiagnoseAsks : (machine name : List ℕ) → Around → Around → Type 0
DiagnoseAsks machine name old new =
    AsksMachine (reads_machine (old.store.contents machine)).gives name old.rig.machine.asked new.rig.machine.asked
    × MakesFewCycles old.rig new.rig

abbrev pub diagnose_job : (machine name : List ℕ) → Job
diagnose_job machine name =
    quiet (machine ∷ [])
    (DiagnoseAsks machine name)
    (diagnose_course machine name)
    (λ old. DiagnoseRight (old.store.contents machine))
