-- A session that is asked again.
use Rattle.std.proofs.Common.{◌≡◌, ◌⊎◌, inl, inr, Bool, true, false, ℕ, ◌≤◌, Option, None, Some, IfSome, List, [], ◌∷◌, ◌++◌, length, take, drop, get_or, refl, sym, ap, ◌∙◌, subst, arith, option_map, IsSome, is_some, if◌then◌else◌}
use Rattle.rig_doubled.proofs.Vocabulary.{option_map_or, take-append-drop, length-take-le, map-append, false≢true, Pins, Faults, pins_of}
use Rattle.rig_doubled.proofs.Vocabulary.{Configuration, Roomy, circuit_of, IsRun, Cycles, at_load, AllByRecursion, session_run, Kept}
use Rattle.rig_doubled.proofs.Vocabulary.{HaveWidth, IsKept, IsOfSession, IsRunUnder, IsRepeating, KeepsFor, StillKeeps}
use Rattle.machine_config.specs.Run.{Cycles.none}
use Rattle.machine_config.proofs.Runs.{Runs-unique, Cycles-split}
use Rattle.rig.specs.Rig.{RigState, Machine, Session, Past, Exchange, IsRunOf, Explains, ForEach, AreRows, GoesOn, GoesOnBy, Begins, shape_of, config_of, cycles_of, drives_of, readings_of}

-- the front of a run is one
front_run : (f : Faults) (g : Configuration) (n : ℕ) (ds rs : List Pins) → n ≤ length ds → IsRun f g ds rs → IsRun f g (take n ds) (take n rs)
front_run f g n ds rs within run =
    let whole : Cycles (circuit_of f g) (at_load (circuit_of f g)) (take n ds ++ drop n ds) rs run.outputs = rw (take-append-drop n ds) run.cycles in
    let split = Cycles-split (circuit_of f g) (take n ds) (drop n ds) whole in
    record { outputs = split.0; cycles = subst (λ m. Cycles (circuit_of f g) (at_load (circuit_of f g)) (take n ds) (take m rs) split.0) (length-take-le n ds within) split.1 }

-- rows as wide as the machine are rows of the session
pub are_rows : (rig : RigState) (g : Configuration) (rows : List Pins) → config_of rig ≡ Some g → HaveWidth (pins_of g.shape) rows → AreRows rig rows
are_rows rig g rows is wide k d here = ap (option_map (λ (h : Configuration). pins_of h.shape)) is ∙ ap Some (sym (wide k d here))

pub wide_rows : (rig : RigState) (g : Configuration) (rows : List Pins) → config_of rig ≡ Some g → AreRows rig rows → HaveWidth (pins_of g.shape) rows
wide_rows rig g rows is wide k d here =
    let e : ◌≡◌ {A = Option ℕ} (Some (pins_of g.shape)) (Some (length (get_or rows k d))) = sym (ap (option_map (λ (h : Configuration). pins_of h.shape)) is) ∙ wide k d here in
    let n : pins_of g.shape ≡ length (get_or rows k d) = cc in
    sym n

pub has_session : (s : Option Session) (g : Configuration) → option_map (λ (t : Session). t.config) s ≡ Some g → IsSome s
has_session (Some s) g is = refl
has_session None g is = absurd (let no : ⊥ = cc in no)

-- what is kept is the run, where the faults are told
pub run_under : (k : Kept) (inner : RigState) → IsOfSession k inner → IsRunUnder inner.machine.faults k
run_under k inner s = by inner.machine.faults (config_of inner) s.config s.told
  where
    ds : List Pins
    ds = drives_of (cycles_of inner)

    rs : List Pins
    rs = readings_of (cycles_of inner)

    by : (o : Option Faults) (c : Option Configuration) → c ≡ Some k.config.config → IfSome o (λ f. IfSome c (λ g. IsRun f g ds rs)) → IsRunUnder o k
    by None c e t = tt
    by (Some f) c e t = rw (s.kept.driven, s.kept.read) (front_run f k.config.config k.made ds rs (omega (arith, s.kept.made)) (subst (λ (d : Option Configuration). IfSome d (λ g. IsRun f g ds rs)) e t))

-- a session that goes on from its load as another did under the same drives reads what that one read
pub reads_again : (told : Option Faults) (g : Configuration) (loaded new : RigState) (drives readings again : List Pins) → IfSome told (λ f. IsRun f g drives readings)
    → new.machine.faults ≡ told → config_of loaded ≡ Some g → cycles_of loaded ≡ [] → GoesOnBy drives again loaded new → IsSome told → readings ≡ again
reads_again None g loaded new drives readings again was told config start goes some = absurd (false≢true some)
reads_again (Some f) g loaded new drives readings again was told config start goes some =
    let cycles : cycles_of new ≡ goes.more = goes.cycles ∙ ap (λ xs. xs ++ goes.more) start in
    let ds : drives_of (cycles_of new) ≡ drives = ap drives_of cycles ∙ goes.driven in
    let rs : readings_of (cycles_of new) ≡ again = ap readings_of cycles ∙ goes.read in
    let first : IfSome (Some f) (λ f. IfSome (config_of new) (λ g. IsRun f g (drives_of (cycles_of new)) (readings_of (cycles_of new)))) =
    subst (λ (o : Option Faults). IfSome o (λ f. IfSome (config_of new) (λ g. IsRun f g (drives_of (cycles_of new)) (readings_of (cycles_of new))))) told goes.told in
    let second : IsRun f g (drives_of (cycles_of new)) (readings_of (cycles_of new)) =
    subst (λ (o : Option Configuration). IfSome o (λ g. IsRun f g (drives_of (cycles_of new)) (readings_of (cycles_of new)))) (goes.config ∙ config) first in
    let run : IsRun f g drives again = subst (λ (xs : List Pins). IsRun f g drives xs) rs (subst (λ (xs : List Pins). IsRun f g xs (readings_of (cycles_of new))) ds second) in
    Runs-unique (circuit_of f g) was run

-- .. and of each set of faults that explains all that was read
pub explained_again : (f : Faults) (g : Configuration) (loaded new : RigState) (drives readings again : List Pins) → config_of loaded ≡ Some g → cycles_of loaded ≡ []
    → GoesOnBy drives again loaded new → Explains f new → IsRun f g drives readings → readings ≡ again
explained_again f g loaded new drives readings again config start goes e was =
    let cycles : cycles_of new ≡ goes.more = goes.cycles ∙ ap (λ xs. xs ++ goes.more) start in
    let ds : drives_of (cycles_of new) ≡ drives = ap drives_of cycles ∙ goes.driven in
    let rs : readings_of (cycles_of new) ≡ again = ap readings_of cycles ∙ goes.read in
    let run = session_run f new g (goes.config ∙ config) e in
    let same : IsRun f g drives again = subst (λ (xs : List Pins). IsRun f g drives xs) rs (subst (λ (xs : List Pins). IsRun f g xs (readings_of (cycles_of new))) ds run) in
    Runs-unique (circuit_of f g) was same

-- what is kept is the run under each set of faults that explains all that was read
pub explained_under : (k : Kept) (inner : RigState) → IsOfSession k inner → ForEach inner (λ told. IsRunUnder told k)
explained_under k inner s f e = rw (s.kept.driven, s.kept.read)
    (front_run f k.config.config k.made (drives_of (cycles_of inner)) (readings_of (cycles_of inner)) (omega (arith, s.kept.made)) (session_run f inner k.config.config s.config e))

-- nothing was read at a load
told_at_load : (o : Option Faults) (c : Option Configuration) (xs : List Exchange) → xs ≡ [] → IfSome o (λ f. IfSome c (λ g. IsRun f g (drives_of xs) (readings_of xs)))
told_at_load None c xs e = tt
told_at_load (Some f) None xs e = tt
told_at_load (Some f) (Some g) xs e = rw e (record { outputs = at_load (circuit_of f g); cycles = none })

pub begins_kept : (times : ℕ) (g : Configuration) (k : Kept) (room : ℕ) (new : RigState) → KeepsFor times g (Some k) → Begins g room new → shape_of new ≡ Some g.shape → IsOfSession k new
begins_kept times g k room new keeps begins attached = record {
  attached = attached ∙ ap (λ (h : Configuration). Some h.shape) (sym keeps.0);
  config = begins.config ∙ ap Some (sym keeps.0);
  kept = rw begins.cycles keeps.1;
  told = told_at_load new.machine.faults (config_of new) (cycles_of new) begins.cycles;
}

-- a cycle more
pub goes_kept : (k more : Kept) (drive reading : Pins) (old new : RigState) → IsOfSession k old → GoesOn drive reading old new → new.machine ≡ old.machine → more.config ≡ k.config
    → ((ds rs : List Pins) → IsKept k ds rs → IsKept more (ds ++ drive ∷ []) (rs ++ reading ∷ [])) → IsOfSession more new
goes_kept k more drive reading old new s goes machine config keeps = record {
  attached = ap (λ (m : Machine). option_map (λ a. a.shape) m.attached) machine ∙ s.attached ∙ ap (λ (c : Roomy). Some c.config.shape) (sym config);
  config = goes.config ∙ s.config ∙ ap (λ (c : Roomy). Some c.config) (sym config);
  kept = rw (goes.cycles, map-append (λ (c : Exchange). c.drive) (cycles_of old), map-append (λ (c : Exchange). c.reading) (cycles_of old)) (keeps _ _ s.kept);
  told = goes.told;
}

-- several cycles more
pub goes_kept_by : (k more : Kept) (drives readings : List Pins) (old new : RigState) → IsOfSession k old → GoesOnBy drives readings old new → new.machine ≡ old.machine → more.config ≡ k.config
    → ((ds rs : List Pins) → IsKept k ds rs → IsKept more (ds ++ drives) (rs ++ readings)) → IsOfSession more new
goes_kept_by k more drives readings old new s goes machine config keeps = record {
  attached = ap (λ (m : Machine). option_map (λ a. a.shape) m.attached) machine ∙ s.attached ∙ ap (λ (c : Roomy). Some c.config.shape) (sym config);
  config = goes.config ∙ s.config ∙ ap (λ (c : Roomy). Some c.config) (sym config);
  kept = rw (goes.cycles, map-append (λ (c : Exchange). c.drive) (cycles_of old) goes.more, map-append (λ (c : Exchange). c.reading) (cycles_of old) goes.more, goes.driven, goes.read) (keeps _ _ s.kept);
  told = goes.told;
}

-- a session that stays
pub stays_kept : (k : Kept) (old new : RigState) → IsOfSession k old → new.machine ≡ old.machine → new.session ≡ old.session → IsOfSession k new
stays_kept k old new s machine session = record {
  attached = ap (λ (m : Machine). option_map (λ a. a.shape) m.attached) machine ∙ s.attached;
  config = ap (option_map (λ (t : Session). t.config)) session ∙ s.config;
  kept = subst (λ (t : Option Session). IsKept k (drives_of (option_map_or (λ (x : Session). x.cycles) t [])) (readings_of (option_map_or (λ (x : Session). x.cycles) t []))) (sym session) s.kept;
  told = subst (λ (t : Option Session). IfSome new.machine.faults (λ f. IfSome (option_map (λ (x : Session). x.config) t) (λ g. IsRun f g (drives_of (option_map_or (λ (x : Session). x.cycles) t [])) (readings_of (option_map_or (λ (x : Session). x.cycles) t []))))) (sym session)
      (subst (λ (m : Machine). IfSome m.faults (λ f. IfSome (config_of old) (λ g. IsRun f g (drives_of (cycles_of old)) (readings_of (cycles_of old))))) (sym machine) s.told);
}

-- after a load what is to be asked again is kept
pub repeats_on : (times : ℕ) (kept : Option Kept) (g : Configuration) (room : ℕ) (new : RigState) (past : List Past) → 1 ≤ times → KeepsFor times g kept → Begins g room new → shape_of new ≡ Some g.shape
    → ((f : Faults) → Explains f new → AllByRecursion (IsRunOf f) past) → IsRepeating times kept true new past
repeats_on times None g room new past some keeps begins attached explains = record { some = some; held = tt; once = λ _. inl keeps; explains = explains }
repeats_on times (Some k) g room new past some keeps begins attached explains = record {
  some = some;
  held = (refl, begins_kept times g k room new keeps begins attached);
  once = λ e. absurd (let no : ⊥ = cc in no);
  explains = explains;
}

-- .. and after a cycle, where a session stood
pub repeats_still : {times : ℕ} {kept next : Option Kept} {inner new : RigState} {past ended : List Past} (stands : Bool) → IsRepeating times kept stands inner past → IsSome (if stands then inner.session else None)
    → StillKeeps kept next new → ((f : Faults) → Explains f new → AllByRecursion (IsRunOf f) ended) → IsRepeating times next stands new ended
repeats_still false is some still explains = absurd (false≢true some)
repeats_still {times} {kept} {next} {inner} {new} true is some still explains = record {
  some = is.some;
  held = by next still.held;
  once = λ e. gone (still.dropped e);
  explains = explains;
}
  where
    by : (o : Option Kept) → IfSome o (λ k. IsOfSession k new) → IfSome o (λ k. (true ≡ true) × IsOfSession k new)
    by None h = tt
    by (Some k) h = (refl, h)

    stood : (o : Option Session) → IsSome o → (times ≡ 1) ⊎ (o ≡ None) → times ≡ 1
    stood o some (inl one) = one
    stood o some (inr e) = absurd (false≢true (sym (ap is_some e) ∙ some))

    gone : (kept ≡ None) ⊎ (new.session ≡ None) → (times ≡ 1) ⊎ (new.session ≡ None)
    gone (inl e) = inl (stood inner.session some (is.once e))
    gone (inr e) = inr e

-- a session is asked as often as it is to be, where it is kept
pub taken : (times : ℕ) (kept : Option Kept) (stands : Bool) (inner : RigState) (past : List Past) → IsRepeating times kept stands inner past
    → (if is_some kept then times else 1) ≡ (if is_some (if stands then inner.session else None) then times else 1)
taken times (Some k) stands inner past is =
    let some : is_some inner.session ≡ true = has_session inner.session k.config.config is.held.1.config in
    sym (ap (λ b. if is_some (if b then inner.session else None) then times else 1) is.held.0 ∙ ap (λ b. if b then times else 1) some)
taken times None stands inner past is = by (if stands then inner.session else None) (is.once refl)
  where
    by : (s : Option Session) → (times ≡ 1) ⊎ (s ≡ None) → 1 ≡ (if is_some s then times else 1)
    by None h = refl
    by (Some s) (inl one) = sym one
    by (Some s) (inr gone) = absurd (let no : ⊥ = cc in no)
