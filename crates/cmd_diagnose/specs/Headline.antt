-- What a `diagnose` that is done has done.
use Rattle.std.specs.Prelude.{◌≡◌, ℕ, List, [], ◌∷◌, ◌++◌, Some}
use Rattle.base_io.specs.Vocabulary.{IfTold, Wrote}
use Rattle.machine_shape.specs.declared.Shape.{Shape}
use Rattle.machine_defects.specs.Text.{text_of}
use Rattle.cmd_steps.specs.Vocabulary.{Outside, IsMachineText}
use Rattle.diag_list.specs.Lists.{Listed, IsListed}

-- The machine of the text is attached under the name, and the text of a list of its defects is written, a diagnosis by all that was
-- read. No load was made but those of the diagnosis
pub record IsDiagnosed (machine name : List ℕ) (old new : Outside) : Type 0 where
  pub shape : Shape
  pub made : Listed
  pub asked : new.store.asked ≡ old.store.asked ++ machine ∷ []
  pub machine_is : IfTold (old.store.contents machine) (λ bytes. IsMachineText bytes shape)
  pub attached : new.rig.machine.attached ≡ Some (record { shape = shape; name = name })
  pub is_listed : IsListed shape old.rig.loads new.rig made
  pub written : Wrote old.sink.written new.sink.written (text_of made.list)
  pub loads : new.rig.loads ≡ made.loads
