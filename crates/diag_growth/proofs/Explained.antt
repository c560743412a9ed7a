-- What explains the log, taken as told faults.
use Rattle.std.proofs.Common.{◌≡◌, ◌∙◌, ℕ, Bool, true, false, Some, List, IsTrue, IfOk, OnOk, Result, Ok, Err, IsErrOf, ap, sym, arith, option_map}
use Rattle.base_io.specs.Counts.{Rose}
use Rattle.rig.specs.Rig.{Machine, shape_of}
use Rattle.diag_evidence.proofs.Keeping.{advances_still}
use Rattle.diag_growth.proofs.Vocabulary.{Faults, RigState, Explains, IsMore, Kept, HoldsFor, Advances, advances_then, keeps_cross, of_told, HasWire, IsFaulty}
use Rattle.diag_growth.proofs.Vocabulary.{IsLinkTo, IsLost, IsSecondMark, Support, VerifiedWire, lost_faulty, second_mark_by}

-- what tests keep is true of what explains the log after them, if what was kept is
pub held : {a b : RigState} {k l : Kept} {f : Faults} → Advances a b k l → Explains f b → (h : Faults) → Some f ≡ Some h → HoldsFor k h → HoldsFor l h
held {k = k} {l = l} advances e = of_told (λ h. HoldsFor k h → HoldsFor l h) (advances.explained _ e)

-- a crosspoint that was toggled over a kept one, of each of some faults
pub second_each : (X : Faults → Type 0) (k : Kept) {ss : List VerifiedWire} {w : ℕ} {a : Support} {E : Type 0} (r : Result Bool E) → IsLinkTo k.shape ss w a → IfOk r (λ yes. IsTrue yes → keeps_cross k a.cross.0 ≡ true) →
    IfOk r (λ yes. (f : Faults) → X f → yes ≡ false → IsLost (Some f) k ss w a.cross.0) → OnOk r ((f : Faults) → X f → IsSecondMark (Some f) k ss a.cross.0)
second_each X k {E = E} (Ok answer) link kept lost = λ f e. second_mark_by (Some f) k {E = E} (Ok answer) link kept (lost f e)
second_each X k (Err e) link kept lost = tt

pub faulty_each : (X : Faults → Type 0) (k : Kept) (x : ℕ) {ss : List VerifiedWire} {w : ℕ} {E : Type 0} (r : Result Bool E) → ¬ HasWire ss w → IfOk r (λ yes. (f : Faults) → X f → yes ≡ false → IsLost (Some f) k ss w x) →
    IfOk r (λ yes. (f : Faults) → X f → yes ≡ false → IsFaulty (Some f) k)
faulty_each X k x (Ok answer) new lost = λ f e is_no. lost_faulty new (lost f e is_no)
faulty_each X k x (Err e) new lost = tt

-- a trial that begins after tests makes no load
pub has_begun : {a b : RigState} {k l m : Kept} → Advances a b k l → IsMore l m → ((f : Faults) → HoldsFor l f → HoldsFor m f) → Advances a b k m
has_begun {b = b} {l = l} {m = m} advances more explained = advances_then advances (advances_still b l m more explained)

-- through tests the shape stays attached, and a count that rose after them rose
pub attached_later : {a b : RigState} {k l : Kept} → Advances a b k l → shape_of a ≡ Some k.shape → shape_of b ≡ Some l.shape
attached_later advances same = ap (λ (m : Machine). option_map (λ a. a.shape) m.attached) advances.machine ∙ same ∙ ap Some (sym advances.more.shape)

pub rose_then : {a b : RigState} {k l : Kept} {n : ℕ} → Advances a b k l → Rose b.failures n → Rose a.failures n
rose_then advances rose = let later = advances.later in omega (arith, later, rose)

-- a refusal is the same of results of another type
pub still_err : {T U E : Type 0} {e f : E} → IsErrOf {T = T} {E = E} (Err e) f → IsErrOf {T = U} {E = E} (Err e) f
still_err {e = e} {f = f} is = let same : e ≡ f = cc in λ i. Err (same i)
