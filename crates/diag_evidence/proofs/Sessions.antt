-- The readings of a session.
use Rattle.std.proofs.Common.{◌≡◌, ℕ, Bool, true, Some, List, [], ◌∷◌, ◌++◌, get_or, ap, ◌∙◌, subst, arith, Result, Ok, Err, OnOk, slice_get}
use Rattle.diag_evidence.proofs.Vocabulary.{gets, Pins, Faults, Configuration, IsRun, HasCycled, ReadsOnce, ReadsEach}
use Rattle.rig.specs.Rig.{RigState, Exchange, Begins, GoesOn, GoesOnBy, Explains, ForEach, config_of, cycles_of, drives_of, readings_of}
use Rattle.rig.proofs.Narrowing.{session_run}
use Rattle.diag_evidence.proofs.Keeping.{of_told}

-- the cycles of the session that stands are the run of all faults that explain the log
runs_of : (f : Faults) (d : RigState) (g : Configuration) (cycles : List Exchange) → config_of d ≡ Some g → cycles_of d ≡ cycles → Explains f d → IsRun f g (drives_of cycles) (readings_of cycles)
runs_of f d g cycles config same e = subst (λ (cs : List Exchange). IsRun f g (drives_of cs) (readings_of cs)) same (session_run f d g config e)

pub once_each : (b c : RigState) (g : Configuration) (room : ℕ) (drive r : Pins) → Begins g room b → GoesOn drive r b c → ForEach c (λ told. ReadsOnce told g drive r)
once_each b c g room drive r begins one f e = record {
  run = of_told (λ h. IsRun h g (drive ∷ []) (r ∷ [])) (runs_of f c g (record { drive = drive; reading = r } ∷ []) (one.config ∙ begins.config)
      (one.cycles ∙ ap (λ (cs : List Exchange). cs ++ record { drive = drive; reading = r } ∷ []) begins.cycles) e);
}

pub rows_each : (b c : RigState) (g : Configuration) (room : ℕ) (drives rows : List Pins) → Begins g room b → GoesOnBy drives rows b c → ForEach c (λ told. ReadsEach told g drives rows)
rows_each b c g room drives rows begins goes f e =
    let cycles : cycles_of c ≡ goes.more = goes.cycles ∙ ap (λ (cs : List Exchange). cs ++ goes.more) begins.cycles in
    let run : IsRun f g (drives_of goes.more) (readings_of goes.more) = runs_of f c g goes.more (goes.config ∙ begins.config) cycles e in
    record { run = of_told (λ h. IsRun h g drives rows) (subst (λ ds. IsRun f g ds rows) goes.driven (subst (λ rs. IsRun f g (drives_of goes.more) rs) goes.read run)) }

pub twice_run : (b c d : RigState) (g : Configuration) (room : ℕ) (low high r q : Pins) → Begins g room b → GoesOn low r b c → GoesOn high q c d →
    (f : Faults) → Explains f d → (h : Faults) → Some f ≡ Some h → IsRun h g (low ∷ high ∷ []) (r ∷ q ∷ [])
twice_run b c d g room low high r q begins one two f e =
    of_told (λ h. IsRun h g (low ∷ high ∷ []) (r ∷ q ∷ [])) (runs_of f d g (record { drive = low; reading = r } ∷ record { drive = high; reading = q } ∷ []) (two.config ∙ one.config ∙ begins.config)
    (two.cycles ∙ ap (λ (cs : List Exchange). cs ++ record { drive = high; reading = q } ∷ []) (one.cycles ∙ ap (λ (cs : List Exchange). cs ++ record { drive = low; reading = r } ∷ []) begins.cycles)) e)

pub on_ok : {T E P Q : Type 0} (r : Result T E) → OnOk r P → (P → Q) → OnOk r Q
on_ok (Ok x) p h = h p
on_ok (Err e) p h = tt

pub on_ok_both : {T E P Q R : Type 0} (r : Result T E) → OnOk r P → OnOk r Q → (P → Q → R) → OnOk r R
on_ok_both (Ok x) p q h = h p q
on_ok_both (Err e) p q h = tt

-- the session after one cycle, and after two
pub cycled_once : (b c : RigState) (g : Configuration) (room : ℕ) (drive r : Pins) → Begins g room b → GoesOn drive r b c → HasCycled g (drive ∷ []) c
cycled_once b c g room drive r begins one = record {
  config = one.config ∙ begins.config;
  cycles = ap drives_of (one.cycles ∙ ap (λ (cs : List Exchange). cs ++ record { drive = drive; reading = r } ∷ []) begins.cycles);
}

pub cycled_twice : (b c d : RigState) (g : Configuration) (room : ℕ) (low high r q : Pins) → Begins g room b → GoesOn low r b c → GoesOn high q c d → HasCycled g (low ∷ high ∷ []) d
cycled_twice b c d g room low high r q begins one two = record {
  config = two.config ∙ one.config ∙ begins.config;
  cycles = ap drives_of (two.cycles ∙ ap (λ (cs : List Exchange). cs ++ record { drive = high; reading = q } ∷ []) (one.cycles ∙ ap (λ (cs : List Exchange). cs ++ record { drive = low; reading = r } ∷ []) begins.cycles));
}

-- the bit that is got
pub got : (read : Pins) (pin : ℕ) (b : Bool) → slice_get read pin ≡ Some b → b ≡ get_or read pin true
got read pin b e = grind (arith, gets, e)
