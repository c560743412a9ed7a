-- The defects of the machine that is attached are listed, as a step, and the list is written.
use Rattle.std.specs.Prelude.{◌≡◌, ◌⊎◌, ℕ, List, [], Some, Result, Ok, Err}
use Rattle.base_io.specs.Told.{Told, IfTold}
use Rattle.machine_shape.specs.declared.Shape.{Shape}
use Rattle.machine_defects.specs.Vocabulary.{DefectList, IsDefectList, text_of}
use Rattle.rig.specs.Rig.{RigState}
use Rattle.diag_list.specs.Possible.{IsDiagnosisOn, TakesFewLoadsOn}
use Rattle.cmd_steps.specs.Vocabulary.{Step, Around, Outside, outside, FailsOnRig, IsMachineText, NoMachine, NotAttached, Took, Puts}
use Rattle.cmd_steps.specs.declared.refusal.{Refusal.Refusal, Stop.Stop}

-- a list of a machine's defects, and how many loads the rig counted when it was made
pub record Listed : Type 0 where
  pub list : DefectList
  pub loads : ℕ

-- The list is one of the machine, and a diagnosis by all that was read. It took few loads from so many that the rig counted before
pub record IsListed (m : Shape) (before : ℕ) (rig : RigState) (l : Listed) : Type 0 where
  pub shape : l.list.shape ≡ m
  pub kept : IsDefectList l.list
  pub right : IsDiagnosisOn rig m l.list.list
  pub few : TakesFewLoadsOn rig m before l.loads

-- the machine of this rig is listed, of which the rig counted so many loads before. It took few, also where it isn't listed
abbrev pub lists : Shape → (before : ℕ) → RigState → Step Listed
lists m before rig = record {
  stops = λ refusal. FailsOnRig refusal × TakesFewLoadsOn rig m before rig.loads;
  gives = IsListed m before rig;
}

-- the same of the list alone, from the rig as it was before to the rig as it is then
abbrev pub lists_now : Shape → (old new : RigState) → Step DefectList
lists_now m old new = record {
  stops = λ refusal. FailsOnRig refusal × TakesFewLoadsOn new m old.loads new.loads;
  gives = λ d. IsListed m old.loads new (record { list = d; loads = new.loads });
}

-- The list is one of the machine of this text, where it is told, and this machine is attached under the name
pub record ListsMachine (name : List ℕ) (text : Told) (old new : RigState) (d : DefectList) : Type 0 where
  pub machine_is : IfTold text (λ bytes. IsMachineText bytes d.shape)
  pub attached : new.machine.attached ≡ Some (record { shape = d.shape; name = name })
  pub is_listed : IsListed d.shape old.loads new (record { list = d; loads = new.loads })

-- The machine of this text isn't read, and the rig isn't asked; or it is read and not attached, and no load was made; or it is
-- attached under the name and not listed, and few loads were made
pub data NotListed (name : List ℕ) (text : Told) (old new : RigState) (refusal : Refusal) : Type 0 where
  unread : NoMachine text refusal → new ≡ old → NotListed name text old new refusal
  unattached : (m : Shape) → IfTold text (λ bytes. IsMachineText bytes m)
      → NotAttached (record { shape = m; name = name }) old new refusal → new.loads ≡ old.loads → NotListed name text old new refusal
  unlisted : (m : Shape) → IfTold text (λ bytes. IsMachineText bytes m) → new.machine.attached ≡ Some (record { shape = m; name = name })
      → FailsOnRig refusal → TakesFewLoadsOn new m old.loads new.loads → NotListed name text old new refusal

-- the machine of this text is read, attached under the name and listed, from the rig as it was before to the rig as it is then
abbrev pub lists_machine : (name : List ℕ) → (text : Told) → (old new : RigState) → Step DefectList
lists_machine name text old new = record { stops = NotListed name text old new; gives = ListsMachine name text old new }

-- the list is made, and nothing of it is written yet
abbrev pub Makes : (m : Shape) → DefectList → Outside → Outside → Type 0
Makes m d old new = Took [] (lists_now m old.rig new.rig) (Ok d) old (outside new.store new.rig old.sink)

-- The list is made and its text is written; or it isn't made; or it is, and its text isn't written whole
abbrev pub WritesList : (m : Shape) → Result DefectList Stop → Outside → Outside → Type 0
WritesList m (Ok d) old new = Makes m d old new × Puts {T = Unit {0}} (text_of d) (Ok tt) old.sink new.sink
WritesList m (Err stop) old new = Took [] (lists_now m old.rig new.rig) (Err stop) old new
    ⊎ ((d : DefectList) × Makes m d old new × Puts {T = Unit {0}} (text_of d) (Err stop) old.sink new.sink)

-- ---- the loads of a command, whatever its end

-- No load was made; or the machine of the text is attached under the name, few loads were made to list its defects, and behind
-- these no more than `more` says
pub data MadeFewLoads (machine name : List ℕ) (more : (made now : ℕ) → Type 0) (old new : Around) : Type 0 where
  unloaded : new.rig.loads ≡ old.rig.loads → MadeFewLoads machine name more old new
  few : (shape : Shape) (made : ℕ) → IfTold (old.store.contents machine) (λ bytes. IsMachineText bytes shape)
      → new.rig.machine.attached ≡ Some (record { shape = shape; name = name })
      → TakesFewLoadsOn new.rig shape old.rig.loads made → more made new.rig.loads → MadeFewLoads machine name more old new
