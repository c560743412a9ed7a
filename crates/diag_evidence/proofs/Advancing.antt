-- What is kept after a test is true.
use Rattle.std.proofs.Common.{◌≡◌, ◌≢◌, ◌≤◌, ◌+◌, ℕ, Bool, true, false, Some, Option, List, Result, Ok, Err, IsErrOf, refl, sym, ◌∙◌, subst, arith, ◌==◌}
use mathlib.Core.Bool.{beq}
use Rattle.diag_evidence.proofs.Vocabulary.{nat_tests, pin_wire, Setting, conducting, swing_clears, closed_cross_shows, cell_shows}
use Rattle.diag_evidence.proofs.Vocabulary.{register_shows, Walk, RigState, Explains, Narrows, Tells}
use Rattle.machine_meaning.specs.Vocabulary.{Pins, Faults, stuck_cross, Net, Joined, here, then, crossed, IsClear, net_of}
use Rattle.machine_config.specs.Vocabulary.{Configuration, is_closed, with_open, with_setting, with_cell, with_init, among, LeadsTo, ends, goes}
use Rattle.base_io.specs.Counts.{Rose}
use Rattle.rig.specs.declared.rig.RigFail.{RigFail}
use Rattle.rig.specs.declared.rig.RigFail.TheVariants as work
use Rattle.diag_evidence.specs.Readings.{LoadsUpTo}
use Rattle.diag_evidence.specs.Vocabulary.{Kept, KeepsTrial, HoldsFor, Gain, Gains, Advances, FewCycles, one_cross, one_cell, one_register, these_wires, Reads, ReadsTwice, IsReady}
use Rattle.diag_evidence.proofs.Keeping.{advances_itself, trial_itself}
use Rattle.diag_evidence.proofs.KeptLemmas.{GainHoldsFor, more_itself, more_by_gain, holds_by_gain, cross_holds, cell_holds, register_holds, wires_hold}
use Rattle.diag_evidence.proofs.Shown.{differ, differ_turned}

pub different_bits : (a b : Bool) → beq a b ≡ false → a ≢ b
different_bits true true e = cc
different_bits false false e = cc
different_bits true false e = λ d. cc
different_bits false true e = λ d. cc

-- a gain of what is true
pub advances_by : {old new : RigState} {k l : Kept} (gain : Gain) → new.machine ≡ old.machine → old.failures ≤ new.failures → old.loads ≤ new.loads → FewCycles old new → Gains gain k l → Narrows old new → Tells old new →
    ((f : Faults) → Explains f new → HoldsFor k f → GainHoldsFor k gain f) → Advances old new k l
advances_by {k = k} {l = l} gain same later counted few gains narrows tells each = record {
  machine = same;
  later = later;
  counted = counted;
  few = few;
  more = more_by_gain gain k l gains;
  narrows = narrows;
  tells = tells;
  explained = λ f e h. holds_by_gain gain k l f gains h (each f e h);
}

-- no load, and nothing is kept
pub advances_idle : {s : RigState} {k l : Kept} → l ≡ k → Advances s s k l
advances_idle {s = s} {k = k} same = subst (Advances s s k) (sym same) (advances_itself s k)

-- loads that keep nothing, alone and after others
pub advances_loads : {T : Type 0} {most : ℕ} {result : Result T RigFail} {old new : RigState} {k l : Kept} → l ≡ k → LoadsUpTo most result old new → FewCycles old new → Advances old new k l
advances_loads {old = old} {new = new} {k = k} same loads few = subst (Advances old new k) (sym same) (record {
  machine = loads.machine;
  later = loads.later;
  counted = loads.counted;
  few = few;
  more = more_itself k;
  narrows = loads.narrows;
  tells = loads.tells;
  explained = λ f e h. h;
})

pub loads_then : {T U : Type 0} {m n : ℕ} {first : Result T RigFail} {second : Result U RigFail} {a b c : RigState} → LoadsUpTo m first a b → LoadsUpTo n second b c → LoadsUpTo (m + n) second a c
loads_then p q = record {
  machine = q.machine ∙ p.machine;
  later = omega (arith, p.later, q.later);
  counted = omega (arith, p.counted, q.counted);
  loads = omega (arith, p.loads, q.loads);
  cause = λ is. let rose = q.cause is in omega (arith, p.later, rose);
  narrows = λ f e. p.narrows f (q.narrows f e);
  tells = λ t. q.tells (p.tells t);
}

-- .. up to a larger number, where the last failed and where all is well
pub loads_failed : {T U : Type 0} {m n : ℕ} {e : RigFail} {a b : RigState} → m ≤ n → LoadsUpTo {T = T} m (Err e) a b → LoadsUpTo {T = U} n (Err e) a b
loads_failed {e = e} few p = record {
  machine = p.machine;
  later = p.later;
  counted = p.counted;
  loads = omega (arith, few, p.loads);
  cause = λ is. let same : e ≡ work.Failed = cc in p.cause (λ i. Err (same i));
  narrows = p.narrows;
  tells = p.tells;
}

pub loads_well : {T U : Type 0} {m n : ℕ} {r : Result T RigFail} {x : U} {a b : RigState} → m ≤ n → LoadsUpTo m r a b → LoadsUpTo {T = U} n (Ok x) a b
loads_well few p = record {
  machine = p.machine;
  later = p.later;
  counted = p.counted;
  loads = omega (arith, few, p.loads);
  cause = λ is. absurd (let no : ⊥ = cc in no);
  narrows = p.narrows;
  tells = p.tells;
}

pub failed_cause : {T U : Type 0} {m : ℕ} {e : RigFail} {a b : RigState} → LoadsUpTo {T = T} m (Err e) a b → IsErrOf {T = U} {E = RigFail} (Err e) work.Failed → Rose a.failures b.failures
failed_cause {e = e} p is = let same : e ≡ work.Failed = cc in p.cause (λ i. Err (same i))

pub trial_same : {k l : Kept} → l ≡ k → KeepsTrial k l
trial_same {k = k} same = subst (KeepsTrial k) (sym same) (trial_itself k)

pub cross_gain : {told : Option Faults} {drive : Pins} {pin : ℕ} {a b : Bool} (k : Kept) (g : Configuration) (x : ℕ) → is_closed g x ≡ true → (p : Reads told g drive pin a) (q : Reads told (with_open g x) drive pin b) → a ≢ b →
    (f : Faults) → told ≡ Some f → GainHoldsFor k (one_cross x) f
cross_gain k g x closed p q n f told = cross_holds k x f (closed_cross_shows f g x closed (p.run f told) (q.run f told) (differ p q n))

pub cell_gain : {told : Option Faults} {drive : Pins} {pin : ℕ} {a b : Bool} (k : Kept) (g : Configuration) (t y : ℕ) (s : Setting) →
    (p : Reads told (with_setting g t (Some (with_cell s y false))) drive pin a) (q : Reads told (with_setting g t (Some (with_cell s y true))) drive pin b) → a ≢ b →
    (f : Faults) → told ≡ Some f → GainHoldsFor k (one_cell t y) f
cell_gain k g t y s p q n f told = cell_holds k t y f (cell_shows f g t s y (q.run f told) (p.run f told) (differ_turned p q n))

pub register_gain : {told : Option Faults} {drive : Pins} {pin : ℕ} {a b : Bool} (k : Kept) (g : Configuration) (t : ℕ) (s : Setting) → s.latched ≡ true →
    (p : Reads told (with_setting g t (Some (with_init s false))) drive pin a) (q : Reads told (with_setting g t (Some (with_init s true))) drive pin b) → a ≢ b →
    (f : Faults) → told ≡ Some f → GainHoldsFor k (one_register t) f
register_gain k g t s latched p q n f told = register_holds k t f (register_shows f g t s latched (q.run f told) (p.run f told) (differ_turned p q n))

-- the wires of a walk are joined to its start
pub joined_along : {net : Net} {start a e : ℕ} {xs ws : List ℕ} → Joined net start a → LeadsTo net.shape a xs ws e → ((x : ℕ) → among xs x ≡ true → net.conducts x ≡ true) → (w : ℕ) → among ws w ≡ true → Joined net start w
joined_along {net} {start} {a} j ends on w is = subst (Joined net start) (grind (arith, nat_tests)) j
joined_along {net} {start} {a} j (goes {x = x} {xs = xs} {ws = ws} below at more) on w is =
    by_place (a == w) refl (joined_along (then j (crossed x (on x (grind (arith, nat_tests))) at)) more (λ y h. on y (grind (arith, nat_tests))) w)
  where
    by_place : (t : Bool) → (a == w) ≡ t → (among ws w ≡ true → Joined net start w) → Joined net start w
    by_place true e later = subst (Joined net start) (grind (arith, nat_tests)) j
    by_place false e later = later (grind (arith, nat_tests))

-- the wires of a route that is ready are joined to its pin
pub ready_joined : (f : Faults) (k : Kept) (g : Configuration) (r : Walk) → g.shape ≡ k.shape → HoldsFor k f → IsReady k g r → (w : ℕ) → among r.wires w ≡ true → Joined (net_of g.shape f (is_closed g)) (pin_wire g.shape r.pin) w
ready_joined f k g r same h ready w is =
    joined_along here (subst (λ m. LeadsTo m (pin_wire m r.pin) r.crosses r.wires r.end) (sym same) ready.route.leads)
    (λ x on. conducting f g (stuck_cross f x) (is_closed g x) (ready.closed x on) (h.crosses x (ready.kept x on))) w is

pub wires_gain : {told : Option Faults} {g : Configuration} {low high : Pins} {a b : Bool} (k : Kept) (r : Walk) → g.shape ≡ k.shape → IsReady k g r → (p : ReadsTwice told g low high r.pin a b) → a ≢ b →
    (f : Faults) → told ≡ Some f → HoldsFor k f → GainHoldsFor k (these_wires r.wires) f
wires_gain {g = g} k r same ready p n f told h =
    wires_hold k r.wires f (λ w is. subst (λ m. IsClear m f w) same
    (swing_clears f g r.pin w (p.run f told) (rw same ready.route.pin) (λ e. n (p.first_is ∙ e ∙ sym p.second_is)) (ready_joined f k g r same h ready w is)))
