-- A log only grows, so what explains it explained it before.
use Rattle.std.proofs.Common.{◌≡◌, ℕ, Some, None, Option, List, [], ◌∷◌, ◌++◌, length, refl, sym, ap, subst, ◌∙◌, Result, Ok, Err, OnOk, OnErr}
use Rattle.std.specs.{List.AllByRecursion, Prelude.option_map, Prelude.IfSome, Prelude.IsSomeAnd, Prelude.IfErr, Option.option_map_or}
use Rattle.machine_meaning.specs.Vocabulary.{Pins, Faults, AreFaultsOf}
use Rattle.machine_config.specs.Vocabulary.{Configuration, Cycles, none, cycle, at_load, circuit_of, IsRun}
use Rattle.rig.specs.declared.rig.RigFail.{RigFail}
use Rattle.rig.specs.declared.rig.RigFail.TheVariants as work
use Rattle.rig.specs.Rig.{Asked, Machine, RigState, Session, Past, Exchange, drives_of, readings_of, shape_of, config_of, cycles_of, standing, log_of, IsRunOf, Explains, Narrows, ToldExplain, Tells, IsTold, Attaches, Begins, GoesOn, GoesOnBy, CycleFails, CyclesFail}

cycles_less : {c : _} {x y : _} (cs ds : List Exchange) → Cycles c x (drives_of (cs ++ ds)) (readings_of (cs ++ ds)) y → (z : _) × Cycles c x (drives_of cs) (readings_of cs) z
cycles_less {x = x} [] ds p = (x, none)
cycles_less (e ∷ cs) ds (cycle s ss) = let more = cycles_less cs ds ss in (more.0, cycle s more.1)

run_less : (f : Faults) (g : Configuration) (cs ds : List Exchange) → IsRunOf f (record { config = g; cycles = cs ++ ds }) → IsRunOf f (record { config = g; cycles = cs })
run_less f g cs ds p = let less = cycles_less cs ds p.cycles in record { outputs = less.0; cycles = less.1 }

all_less : {T : Type 0} (P : T → Type 0) (xs ys : List T) → AllByRecursion P (xs ++ ys) → AllByRecursion P xs
all_less P [] ys p = tt
all_less P (x ∷ xs) ys p = (p.0, all_less P xs ys p.1)

all_last : {T : Type 0} (P : T → Type 0) (xs : List T) (x y : T) → (P y → P x) → AllByRecursion P (xs ++ y ∷ []) → AllByRecursion P (xs ++ x ∷ [])
all_last P [] x y h p = (h p.0, tt)
all_last P (z ∷ xs) x y h p = (p.0, all_last P xs x y h p.1)

faults_same : (f : Faults) (old new : RigState) → new.machine ≡ old.machine → IsSomeAnd (shape_of new) (λ m. AreFaultsOf m f) → IsSomeAnd (shape_of old) (λ m. AreFaultsOf m f)
faults_same f old new e h = subst (λ (m : Machine). IsSomeAnd (option_map (λ (a : Asked). a.shape) m.attached) (λ m. AreFaultsOf m f)) e h

-- the log is the same, or it is the same and more
same_log : (old new : RigState) → new.machine ≡ old.machine → log_of new ≡ log_of old → Narrows old new
same_log old new machine same f e = record { faults = faults_same f old new machine e.faults; runs = subst (AllByRecursion (IsRunOf f)) same e.runs }

pub narrows_same : {old new : RigState} → new.machine ≡ old.machine → log_of new ≡ log_of old → Narrows old new
narrows_same {old} {new} machine same = same_log old new machine same

-- behind what stood in the log before is whatever stands now
pub narrows_load : {old new : RigState} → new.machine ≡ old.machine → new.past ≡ log_of old → Narrows old new
narrows_load {old} {new} machine past f e = record {
  faults = faults_same f old new machine e.faults;
  runs = all_less (IsRunOf f) (log_of old) (standing new.session) (subst (λ ps. AllByRecursion (IsRunOf f) (ps ++ standing new.session)) past e.runs);
}

-- the session that stands goes on
by_session : (f : Faults) (past : List Past) (more : List Exchange) (a b : Option Session) → option_map (λ s. s.config) b ≡ option_map (λ s. s.config) a →
    option_map_or (λ s. s.cycles) b [] ≡ option_map_or (λ s. s.cycles) a [] ++ more → AllByRecursion (IsRunOf f) (past ++ standing b) → AllByRecursion (IsRunOf f) (past ++ standing a)
by_session f past more None None c e p = p
by_session f past more None (Some b) c e p = cc
by_session f past more (Some a) None c e p = cc
by_session f past more (Some a) (Some b) c e p =
    let same : b.config ≡ a.config = ap (λ o. option_map_or (λ g. g) o a.config) c in
    all_last (IsRunOf f) past (record { config = a.config; cycles = a.cycles }) (record { config = b.config; cycles = b.cycles })
    (λ run. run_less f a.config a.cycles more (subst (λ g. IsRunOf f (record { config = g; cycles = a.cycles ++ more })) same (subst (λ cs. IsRunOf f (record { config = b.config; cycles = cs })) e run))) p

pub narrows_more : {old new : RigState} (more : List Exchange) → new.machine ≡ old.machine → new.past ≡ old.past → config_of new ≡ config_of old → cycles_of new ≡ cycles_of old ++ more → Narrows old new
narrows_more {old} {new} more machine past config cycles f e = record {
  faults = faults_same f old new machine e.faults;
  runs = by_session f old.past more old.session new.session config cycles (subst (λ ps. AllByRecursion (IsRunOf f) (ps ++ standing new.session)) past e.runs);
}

pub narrows_cycle : {T : Type 0} (d q : Pins) {old new : RigState} (r : Result T RigFail) → new.machine ≡ old.machine → OnOk r (GoesOn d q old new) → IfErr r (λ e. CycleFails e old new) → Narrows old new
narrows_cycle d q (Ok x) machine on fails = narrows_more (record { drive = d; reading = q } ∷ []) machine on.past on.config on.cycles
narrows_cycle d q (Err work.Failed) machine on fails = narrows_load machine fails.2
narrows_cycle d q {old} {new} (Err work.Memory) machine on fails = narrows_same machine (λ i. fails.2 i ++ standing (fails.1 i))

pub narrows_cycles : {T : Type 0} (ds qs : List Pins) {old new : RigState} (r : Result T RigFail) → new.machine ≡ old.machine → OnOk r (GoesOnBy ds qs old new) → IfErr r (λ e. CyclesFail e (length ds) old new) → Narrows old new
narrows_cycles ds qs (Ok x) machine on fails = narrows_more on.more machine on.past on.config on.cycles
narrows_cycles ds qs (Err work.Failed) machine on fails = narrows_load machine fails.2
narrows_cycles ds qs {old} {new} (Err work.Memory) machine on fails = narrows_same machine (λ i. fails.2 i ++ standing (fails.1 i))

-- Told faults explain what is read. An empty session is the run of any.
no_cycles : (f : Faults) (g : Configuration) → IsRunOf f (record { config = g; cycles = [] })
no_cycles f g = record { outputs = at_load (circuit_of f g); cycles = none }

all_more : {T : Type 0} (P : T → Type 0) (xs ys : List T) → AllByRecursion P xs → AllByRecursion P ys → AllByRecursion P (xs ++ ys)
all_more P [] ys p q = q
all_more P (x ∷ xs) ys p q = (p.0, all_more P xs ys p.1 q)

-- behind what stood in the log before, a session whose readings are the run
explains_by : (f : Faults) (old new : RigState) (past : List Past) → new.machine ≡ old.machine → new.past ≡ past →
    AllByRecursion (IsRunOf f) past → AllByRecursion (IsRunOf f) (standing new.session) → Explains f old → Explains f new
explains_by f old new past machine same before now e = record {
  faults = faults_same f new old (sym machine) e.faults;
  runs = all_more (IsRunOf f) new.past (standing new.session) (subst (AllByRecursion (IsRunOf f)) (sym same) before) now;
}

began : (f : Faults) (g : Configuration) (o : Option Session) → option_map_or (λ s. s.cycles) o [] ≡ [] → AllByRecursion (IsRunOf f) (standing o)
began f g None e = tt
began f g (Some s) e = (subst (λ cs. IsRunOf f (record { config = s.config; cycles = cs })) (sym e) (no_cycles f s.config), tt)

no_session : (f : Faults) (o : Option Session) → o ≡ None → AllByRecursion (IsRunOf f) (standing o)
no_session f o e = subst (λ o. AllByRecursion (IsRunOf f) (standing o)) (sym e) tt

if_told : (o : Option Faults) (P : Faults → Type 0) → ((f : Faults) → o ≡ Some f → P f) → IfSome o P
if_told None P h = tt
if_told (Some f) P h = h f refl

told_as : {o : Option Faults} {f : Faults} (P : Faults → Type 0) → o ≡ Some f → IfSome o P → P f
told_as P e p = subst (λ (o : Option Faults). IfSome o P) e p

tells_by : (old new : RigState) → new.machine ≡ old.machine → ((f : Faults) → new.machine.faults ≡ Some f → Explains f old → Explains f new) → Tells old new
tells_by old new machine h told = if_told new.machine.faults _ (λ f is. h f is (told_as _ (sym (ap (λ (m : Machine). m.faults) machine) ∙ is) told))

pub tells_load : {T : Type 0} (g : Configuration) (room : ℕ) (old new : RigState) (r : Result T RigFail) → new.machine ≡ old.machine → new.past ≡ log_of old →
    OnOk r (Begins g room new) → OnErr r (new.session ≡ None) → Tells old new
tells_load g room old new (Ok x) machine past begins ended = tells_by old new machine
    (λ f told e. explains_by f old new (log_of old) machine past e.runs (began f g new.session begins.cycles) e)
tells_load g room old new (Err x) machine past begins ended = tells_by old new machine
    (λ f told e. explains_by f old new (log_of old) machine past e.runs (no_session f new.session ended) e)

-- the session that stands, where the faults are told
told_session : (f : Faults) (o : Option Session) → IfSome (option_map (λ s. s.config) o)
    (λ g. IsRun f g (drives_of (option_map_or (λ s. s.cycles) o [])) (readings_of (option_map_or (λ s. s.cycles) o []))) → AllByRecursion (IsRunOf f) (standing o)
told_session f None p = tt
told_session f (Some s) p = (p, tt)

tells_more : (old new : RigState) → new.machine ≡ old.machine → new.past ≡ old.past → IsTold new → Tells old new
tells_more old new machine past told = tells_by old new machine
    (λ f is e. explains_by f old new old.past machine past (all_less (IsRunOf f) old.past (standing old.session) e.runs) (told_session f new.session (told_as _ is told)) e)

tells_ended : (old new : RigState) → new.machine ≡ old.machine → new.session ≡ None → new.past ≡ log_of old → Tells old new
tells_ended old new machine ended past = tells_by old new machine
    (λ f is e. explains_by f old new (log_of old) machine past e.runs (no_session f new.session ended) e)

tells_same : (old new : RigState) → new.machine ≡ old.machine → log_of new ≡ log_of old → Tells old new
tells_same old new machine same = tells_by old new machine (λ f is. same_log new old (sym machine) (sym same) f)

pub tells_cycle : {T : Type 0} (d q : Pins) (old new : RigState) (r : Result T RigFail) → new.machine ≡ old.machine → OnOk r (GoesOn d q old new) → IfErr r (λ e. CycleFails e old new) → Tells old new
tells_cycle d q old new (Ok x) machine on fails = tells_more old new machine on.past on.told
tells_cycle d q old new (Err work.Failed) machine on fails = tells_ended old new machine fails.1 fails.2
tells_cycle d q old new (Err work.Memory) machine on fails = tells_same old new machine (λ i. fails.2 i ++ standing (fails.1 i))

pub tells_cycles : {T : Type 0} (ds qs : List Pins) (old new : RigState) (r : Result T RigFail) → new.machine ≡ old.machine → OnOk r (GoesOnBy ds qs old new) → IfErr r (λ e. CyclesFail e (length ds) old new) → Tells old new
tells_cycles ds qs old new (Ok x) machine on fails = tells_more old new machine on.past on.told
tells_cycles ds qs old new (Err work.Failed) machine on fails = tells_ended old new machine fails.1 fails.2
tells_cycles ds qs old new (Err work.Memory) machine on fails = tells_same old new machine (λ i. fails.2 i ++ standing (fails.1 i))

-- behind an attach that is well the log is empty
pub tells_attach : {old new : RigState} {machine : Asked} → Attaches machine old new → ToldExplain new
tells_attach {old} {new} {machine} a = if_told new.machine.faults _ (λ f told. record {
  faults = subst (λ (o : Option Asked). IsSomeAnd (option_map (λ (m : Asked). m.shape) o) (λ m. AreFaultsOf m f)) (sym a.attached) (told_as _ told a.faults);
  runs = all_more (IsRunOf f) new.past (standing new.session) (subst (AllByRecursion (IsRunOf f)) (sym a.past) tt) (no_session f new.session a.session);
})

-- what explains the log has the session that stands as its run
last_run : (f : Faults) (past : List Past) (o : Option Session) (g : Configuration) → option_map (λ s. s.config) o ≡ Some g → AllByRecursion (IsRunOf f) (past ++ standing o)
    → IsRun f g (drives_of (option_map_or (λ s. s.cycles) o [])) (readings_of (option_map_or (λ s. s.cycles) o []))
last_run f past None g e p = cc
last_run f past (Some s) g e p =
    subst (λ h. IsRun f h (drives_of s.cycles) (readings_of s.cycles)) (ap (λ o. option_map_or (λ h. h) o g) e) (all_end past p)
  where
    all_end : (xs : List Past) → AllByRecursion (IsRunOf f) (xs ++ record { config = s.config; cycles = s.cycles } ∷ []) → IsRunOf f (record { config = s.config; cycles = s.cycles })
    all_end [] p = p.0
    all_end (x ∷ xs) p = all_end xs p.1

pub session_run : (f : Faults) (rig : RigState) (g : Configuration) → config_of rig ≡ Some g → Explains f rig → IsRun f g (drives_of (cycles_of rig)) (readings_of (cycles_of rig))
session_run f rig g e explains = last_run f rig.past rig.session g e explains.runs

-- .. and all sessions that have ended
pub past_runs : (f : Faults) (rig : RigState) → Explains f rig → AllByRecursion (IsRunOf f) rig.past
past_runs f rig e = all_less (IsRunOf f) rig.past (standing rig.session) e.runs

pub standing_runs : (f : Faults) (rig : RigState) → Explains f rig → AllByRecursion (IsRunOf f) (standing rig.session)
standing_runs f rig e = by rig.past e.runs
  where
    by : (xs : List Past) → AllByRecursion (IsRunOf f) (xs ++ standing rig.session) → AllByRecursion (IsRunOf f) (standing rig.session)
    by [] p = p
    by (x ∷ xs) p = by xs p.1

-- what explains sessions explains them with more behind
pub runs_more : (f : Faults) (xs ys : List Past) → AllByRecursion (IsRunOf f) xs → AllByRecursion (IsRunOf f) ys → AllByRecursion (IsRunOf f) (xs ++ ys)
runs_more f xs ys = all_more (IsRunOf f) xs ys
