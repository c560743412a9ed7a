-- Machines that weren't attached.
use Rattle.cmd_steps.proofs.Vocabulary.{◌≡◌, ◌≤◌, ◌++◌, [], Some, None, length, refl, inl, inr, arith, Ok, Err, sum_by, StoreState}
use Rattle.cmd_steps.proofs.Vocabulary.{SinkState, RigState, Past, Asked, AttachFails, IsDetached, cycles_made, standing}
use Rattle.rig.specs.declared.rig.AttachFail.{AttachFail}
use Rattle.rig.specs.declared.rig.AttachFail.TheVariants as attach
use Rattle.machine_faults.specs.declared.kind.FaultsFault.TheVariants as text
use Rattle.cmd_steps.specs.Vocabulary.{outside, IsLater, LogGoesOn, StepStops, IsCounted, stop_of_attach, Took, attaches, MayAsk}
use Rattle.cmd_steps.proofs.Making.{took-quietly, stopped-quietly}
use Rattle.cmd_steps.proofs.Logs.{log_refused}

-- an empty log has no cycles
pub none-made : (rig : RigState) → rig.session ≡ None → rig.past ≡ [] → cycles_made rig ≡ 0
unfolding cycles_made
none-made rig session past = λ i. sum_by (λ (s : Past). length s.cycles) (past i ++ standing (session i))

module _ (machine : Asked) (old new : RigState) where
  attach-stops : (fail : AttachFail) → IsDetached new → AttachFails fail machine old new → StepStops (attaches machine old new) (stop_of_attach fail)
  attach-stops attach.Failed none fails = none
  attach-stops (attach.Faults (text.At line kind)) none fails = (fails.1, none)
  attach-stops (attach.Faults text.Memory) none fails = none
  attach-stops attach.Memory none fails = none

  pub attach-asks : (fail : AttachFail) → AttachFails fail machine old new → MayAsk machine old.machine.asked new.machine.asked
  attach-asks attach.Failed fails = inr fails.1
  attach-asks (attach.Faults fault) fails = inr fails.0
  attach-asks attach.Memory fails = inl fails.0

  attach-counted : (fail : AttachFail) (store : StoreState) (sink : SinkState) → AttachFails fail machine old new → IsCounted ⊥ (stop_of_attach fail) (outside store old sink) (outside store new sink)
  attach-counted attach.Failed store sink fails = fails.0
  attach-counted (attach.Faults (text.At line kind)) store sink fails = tt
  attach-counted (attach.Faults text.Memory) store sink fails = tt
  attach-counted attach.Memory store sink fails = tt

  rig-later : (store : StoreState) (sink : SinkState) → new.machine.texts ≡ old.machine.texts → old.failures ≤ new.failures → LogGoesOn old new → IsLater (outside store old sink) (outside store new sink)
  rig-later store sink texts later log = record { contents = refl; texts = texts; kind = refl; store = omega arith; rig = later; sink = omega arith; log = log }

  pub attach-took : (store : StoreState) (sink : SinkState) → new.machine.texts ≡ old.machine.texts → old.failures ≤ new.failures → LogGoesOn old new → new.machine.attached ≡ Some machine → Took [] (attaches machine old new) (Ok tt) (outside store old sink) (outside store new sink)
  attach-took store sink texts later log attached = took-quietly (attaches machine old new) (rig-later store sink texts later log) tt attached

  pub attach-taken : (store : StoreState) (sink : SinkState) (fail : AttachFail) → new.machine.texts ≡ old.machine.texts → old.failures ≤ new.failures → IsDetached new → AttachFails fail machine old new → Took [] (attaches machine old new) (Err (stop_of_attach fail)) (outside store old sink) (outside store new sink)
  attach-taken store sink fail texts later none fails =
      stopped-quietly (attaches machine old new) (rig-later store sink texts later (log_refused machine fail none fails)) _ (attach-stops fail none fails) (attach-counted fail store sink fails)
