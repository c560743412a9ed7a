-- The list as a step.
use Rattle.std.proofs.Common.{◌≡◌, ◌∙◌, ℕ, ◌+◌, ◌*◌, ◌≤◌, List, [], Some, option_map, refl, sym, ap, arith, append-nil, Ok, Err}
use Rattle.diag_list.proofs.Vocabulary.{Rose, StoreState, SinkState, Shape, DefectList, IsDefectList, outside, IsLater, IsCounted}
use Rattle.diag_list.proofs.Vocabulary.{StepStops, stop_of_rig, Took, Stop, IsListed, Listed, lists, lists_now, log_kept}
use Rattle.machine_shape.specs.Shape.{wires_of, crosses_of, tables_of}
use Rattle.rig.specs.{Rig.RigState, Rig.Machine, Rig.Asked, Rig.ForEach, Rig.Narrows, Rig.Tells, Rig.shape_of, declared.rig.RigFail.RigFail}
use Rattle.rig.specs.declared.rig.RigFail.TheVariants.{Failed, Memory}
use Rattle.diag_machine.specs.Diagnosis.{IsDiagnosis, TakesFewLoads}
use Rattle.diag_list.specs.Possible.{IsDiagnosisOn, TakesFewLoadsOn}
use Rattle.cmd_steps.specs.declared.refusal.Stop.TheVariants.{Refused, Sink}

-- the shape that is attached
pub attached-shape : (rig : RigState) (m : Shape) (name : List ℕ) → rig.machine.attached ≡ Some (record { shape = m; name = name }) → shape_of rig ≡ Some m
attached-shape rig m name is = ap (option_map (λ (a : Asked). a.shape)) is

-- and that of a list of the machine that is attached
pub list-shape : (old new : RigState) (m : Shape) (d : DefectList) → new.machine ≡ old.machine → d.shape ≡ m → shape_of old ≡ Some m → shape_of new ≡ Some d.shape
list-shape old new m d machine same is = ap (λ (x : Machine). option_map (λ (a : Asked). a.shape) x.attached) machine ∙ (is ∙ ap Some (sym same))

-- a list is one of the machine, and so it stays while its log goes on
pub listed-on : (m : Shape) (before : ℕ) (mid new : RigState) (l : Listed) → IsListed m before mid l → Narrows mid new → IsListed m before new l
listed-on m before mid new l is narrows = record {
  shape = is.shape;
  kept = is.kept;
  right = record {
    covers = λ f e. is.right.covers f (narrows f e);
    fair = λ f e. is.right.fair f (narrows f e);
    tight = λ f e. is.right.tight f (narrows f e);
  };
  few = record { always = is.few.always; faultless = λ f e none. is.few.faultless f (narrows f e) none };
}

-- where it isn't made, few loads were made too, from so many on
pub few-stops : (m : Shape) (before : ℕ) (old new : RigState) (stop : Stop) → old.loads ≡ before → StepStops (lists_now m old new) stop → StepStops (lists m before new) stop
few-stops m before old new (Refused refusal) loads stops = (stops.0, rw (← loads) stops.1)
few-stops m before old new (Sink fail) loads stops = stops

-- ---- what is said of each set that explains what was read

pub diagnosis-on : (m : Shape) (new : RigState) (d : DefectList) → ForEach new (λ told. IsDiagnosis told m d.list) → IsDiagnosisOn new m d.list
diagnosis-on m new d each = record {
  covers = λ f e. (each f e).covers f refl;
  fair = λ f e. (each f e).fair f refl;
  tight = λ f e. (each f e).tight f refl;
}

pub few-on : (m : Shape) (old new : RigState) → ForEach new (λ told. TakesFewLoads told m old.loads new.loads) → new.loads ≤ old.loads + (16 * crosses_of m + (20 * wires_of m + 130 * tables_of m)) → TakesFewLoadsOn new m old.loads new.loads
few-on m old new each always = record { always = always; faultless = λ f e none. (each f e).faultless f refl none }

module _ (m : Shape) (old new : RigState) (machine : new.machine ≡ old.machine) (narrows : Narrows old new) (tells : Tells old new) (store : StoreState) (sink : SinkState) where
  list-later : old.failures ≤ new.failures → IsLater (outside store old sink) (outside store new sink)
  list-later later = record { contents = refl; texts = ap (λ (x : Machine). x.texts) machine; kind = refl; store = omega arith; rig = later; sink = omega arith; log = log_kept machine narrows tells }

  pub list-took : (d : DefectList) → old.failures ≤ new.failures → d.shape ≡ m → IsDefectList d → IsDiagnosisOn new m d.list → TakesFewLoadsOn new m old.loads new.loads → Took [] (lists_now m old new) (Ok d) (outside store old sink) (outside store new sink)
  list-took d later shape kept right few = record {
    later = list-later later;
    silent = refl;
    asked = record { all = sym (append-nil store.asked); some = tt };
    place = refl;
    gives = record { shape = shape; kept = kept; right = right; few = few };
    stops = tt;
    counted = tt;
  }

  fail-stops : (fail : RigFail) → TakesFewLoadsOn new m old.loads new.loads → StepStops (lists_now m old new) (stop_of_rig fail)
  fail-stops Failed few = (tt, few)
  fail-stops Memory few = (tt, few)

  rig-counted : (fail : RigFail) → (fail ≡ Failed → Rose old.failures new.failures) → IsCounted ⊥ (stop_of_rig fail) (outside store old sink) (outside store new sink)
  rig-counted Failed cause = cause refl
  rig-counted Memory cause = tt

  pub list-stopped : (fail : RigFail) → old.failures ≤ new.failures → (fail ≡ Failed → Rose old.failures new.failures) → TakesFewLoadsOn new m old.loads new.loads → Took [] (lists_now m old new) (Err (stop_of_rig fail)) (outside store old sink) (outside store new sink)
  list-stopped fail later cause few = record {
    later = list-later later;
    silent = refl;
    asked = record { all = tt; some = refl };
    place = refl;
    gives = tt;
    stops = fail-stops fail few;
    counted = rig-counted fail cause;
  }
