-- Steps that touch the rig alone.
use Rattle.std.proofs.Common.{◌≡◌, ◌≤◌, false, [], None, refl, sym, ap, append-nil, arith, Ok, Err}
use Rattle.cmd_steps.proofs.Vocabulary.{untold, StoreState, SinkState, RigState, Machine, Narrows, Tells, Stop}
use Rattle.cmd_steps.specs.Vocabulary.{Outside, outside, IsLater, Step, StepStops, IsCounted, Took}
use Rattle.cmd_steps.proofs.Logs.{log_kept}

-- an outside to ask with for what doesn't depend on it
abbrev pub nothing : Outside
nothing = record {
  store = record { contents = λ name. untold; asked = []; current = None; read_at = None; failures = 0 };
  rig = record {
    machine = record { asked = []; attached = None; faults = None; texts = λ name. None; refused = record { times = 0; last = None } };
    session = None;
    past = [];
    loads = 0;
    failures = 0;
  };
  sink = record { written = None; failures = 0; can_lack = false };
}

-- a step that leaves the store and the sink as they are
module _ {T : Type 0} (step : Step T) {store : StoreState} {sink : SinkState} {old new : RigState} (later : IsLater (outside store old sink) (outside store new sink)) where
  -- gives something
  pub took-quietly : (x : T) → step.gives x → Took [] step (Ok x) (outside store old sink) (outside store new sink)
  took-quietly x gives = record {
    later = later;
    silent = refl;
    asked = record { all = sym (append-nil store.asked); some = tt };
    place = refl;
    gives = gives;
    stops = tt;
    counted = tt;
  }

  -- or it stops
  pub stopped-quietly : (stop : Stop) → StepStops step stop → IsCounted ⊥ stop (outside store old sink) (outside store new sink) → Took [] step (Err stop) (outside store old sink) (outside store new sink)
  stopped-quietly stop stops counted = record {
    later = later;
    silent = refl;
    asked = record { all = tt; some = refl };
    place = refl;
    gives = tt;
    stops = stops;
    counted = counted;
  }

-- the rig alone was used, its machine is the same, and its log goes on
module _ {T : Type 0} (step : Step T) (old new : RigState) (store : StoreState) (sink : SinkState) (machine : new.machine ≡ old.machine) (narrows : Narrows old new) (tells : Tells old new) (later : old.failures ≤ new.failures) where
  abbrev on-rig : IsLater (outside store old sink) (outside store new sink)
  on-rig = record { contents = refl; texts = ap (λ (m : Machine). m.texts) machine; kind = refl; store = omega arith; rig = later; sink = omega arith; log = log_kept machine narrows tells }

  pub rig-took : (x : T) → step.gives x → Took [] step (Ok x) (outside store old sink) (outside store new sink)
  rig-took = took-quietly step on-rig

  pub rig-stopped : (stop : Stop) → StepStops step stop → IsCounted ⊥ stop (outside store old sink) (outside store new sink) → Took [] step (Err stop) (outside store old sink) (outside store new sink)
  rig-stopped = stopped-quietly step on-rig
