-- Steps that leave the machine as it is, and stop: by the fault of the rig, or for lack of memory.
use Rattle.cmd_steps.proofs.Vocabulary.{◌≡◌, ◌≤◌, [], refl, Result, Err, Rose, StoreState, SinkState, RigState, Narrows, Tells, Outside}
use Rattle.cmd_steps.proofs.Vocabulary.{outside, Course, Step, after, stop_of_rig, FailsOnRig, Took, Follows, Refusal, Stop, Refused, Sink}
use Rattle.rig.specs.declared.rig.RigFail.{RigFail}
use Rattle.rig.specs.declared.rig.RigFail.TheVariants as work
use Rattle.cmd_steps.specs.declared.refusal.Refusal.TheVariants as refused
use Rattle.cmd_steps.proofs.Keeping.{kept-stops}
use Rattle.cmd_steps.proofs.Making.{rig-stopped}
use Rattle.cmd_steps.proofs.Taking.{took-nothing}

-- a step on the rig fails
pub rig-fails : {T : Type 0} (step : Step T) (old new : RigState) (store : StoreState) (sink : SinkState) →
    new.machine ≡ old.machine → Narrows old new → Tells old new → old.failures ≤ new.failures → (fail : RigFail) → (fail ≡ work.Failed → Rose old.failures new.failures) →
    ((refusal : Refusal) → FailsOnRig refusal → step.stops refusal) →
    Took [] step (Err (stop_of_rig fail)) (outside store old sink) (outside store new sink)
rig-fails step old new store sink machine narrows tells later work.Failed cause stops =
    rig-stopped step old new store sink machine narrows tells later (Refused refused.Rig) (stops refused.Rig tt) (cause refl)
rig-fails step old new store sink machine narrows tells later work.Memory cause stops =
    rig-stopped step old new store sink machine narrows tells later (Refused refused.Memory) (stops refused.Memory tt) tt

module _ {T U : Type 0} (step : Step T) (here : Type 0) (rest : T → Course) where
  -- each refusal that stops the step as it was made stops it in the course
  pub kept-refuses : {V : Type 0} (made : Step V) (stop : Stop) (result : Result U Stop) (old new : Outside) → result ≡ Err stop →
      Took [] made (Err stop) old new → ((refusal : Refusal) → made.stops refusal → step.stops refusal) → here →
      new.rig.machine ≡ old.rig.machine → Follows ⊥ [] (new.rig.machine ≡ old.rig.machine) (after step here rest) result old new
  kept-refuses made (Refused refusal) result old new is took stops at same =
      kept-stops step here rest made (Refused refusal) result old new is took (stops refusal) at same
  kept-refuses made (Sink fail) result old new is took stops at same = absurd took.stops

  -- memory is lacking for what touches nothing
  pub kept-lacks : (result : Result U Stop) (o : Outside) → result ≡ Err (Refused refused.Memory) → step.stops refused.Memory → here →
      Follows ⊥ [] (o.rig.machine ≡ o.rig.machine) (after step here rest) result o o
  kept-lacks result o is stops at =
      kept-stops step here rest step (Refused refused.Memory) result o o is (took-nothing step _ o refl stops) (λ s. s) at refl
