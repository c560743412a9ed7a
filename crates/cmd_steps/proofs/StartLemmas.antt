-- Files of vectors that are started.
use Rattle.std.proofs.Common.{◌≡◌, ℕ, ◌≤◌, List, [], ◌∷◌, ◌++◌, Some, refl, inl, inr, arith, Ok, Err}
use Rattle.cmd_steps.proofs.Vocabulary.{Told, IsPresent, StoreState, StartFails, SinkState, StoreFail, RigState}
use Rattle.base_io.specs.declared.store.StoreFail.TheVariants.{Failed, Memory}
use Rattle.cmd_steps.specs.Vocabulary.{file_of, Outside, outside, StandsIn, IsLater, AsksSome, StepStops, IsCounted, stop_of_store, opens, Took}
use Rattle.cmd_steps.proofs.Logs.{log_same}

-- the file that was started
pub begun-file : (new : StoreState) (contents : List ℕ → Told) (name : List ℕ) → new.contents ≡ contents → new.current ≡ Some (record { name = name; at = 0 }) → file_of new ≡ contents name
begun-file new contents name same current = rw (current, same) refl

pub start-stops : (fail : StoreFail) (told : Told) → StepStops (opens told) (stop_of_store fail)
start-stops Failed told = tt
start-stops Memory told = tt

pub start-counted : (fail : StoreFail) (name : List ℕ) (old new : Outside) (mid : StoreState) → old.store.failures ≤ mid.failures → StartFails fail name mid new.store → IsCounted ⊥ (stop_of_store fail) old new
start-counted Failed name old new mid later fails = omega (arith, later, fails.0.rose)
start-counted Memory name old new mid later fails = tt

-- ---- the start as a step

start-stands : (fail : StoreFail) (name : List ℕ) (old new : StoreState) → StartFails fail name old new → StandsIn (name ∷ []) old new
start-stands Failed name old new fails = inr (rw fails.0.closed tt)
start-stands Memory name old new fails = inl (rw fails refl)

start-asks : (fail : StoreFail) (name : List ℕ) (old new : StoreState) → StartFails fail name old new → AsksSome (name ∷ []) old.asked new.asked
start-asks Failed name old new fails = inr fails.1
start-asks Memory name old new fails = inl (rw fails refl)

module _ (name : List ℕ) (told : Told) (old new : StoreState) (rig : RigState) (sink : SinkState) where
  start-later : new.contents ≡ old.contents → old.failures ≤ new.failures → IsLater (outside old rig sink) (outside new rig sink)
  start-later contents later = record { contents = contents; texts = refl; kind = refl; store = later; rig = omega arith; sink = omega arith; log = log_same rig }

  pub start-took : new.contents ≡ old.contents → old.failures ≤ new.failures → new.asked ≡ old.asked ++ name ∷ [] → new.current ≡ Some (record { name = name; at = 0 }) → IsPresent told → Took (name ∷ []) (opens told) (Ok tt) (outside old rig sink) (outside new rig sink)
  start-took contents later asked current present = record {
    later = start-later contents later;
    silent = refl;
    asked = record { all = asked; some = tt };
    place = inr (rw current (refl, omega arith));
    gives = present;
    stops = tt;
    counted = tt;
  }

  pub start-taken : (fail : StoreFail) → new.contents ≡ old.contents → old.failures ≤ new.failures → StartFails fail name old new → Took (name ∷ []) (opens told) (Err (stop_of_store fail)) (outside old rig sink) (outside new rig sink)
  start-taken fail contents later fails = record {
    later = start-later contents later;
    silent = refl;
    asked = record { all = tt; some = start-asks fail name old new fails };
    place = start-stands fail name old new fails;
    gives = tt;
    stops = start-stops fail told;
    counted = start-counted fail name (outside old rig sink) (outside new rig sink) old (omega arith) fails;
  }
