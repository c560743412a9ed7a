-- Marks stay right, while more is kept and known, and where one is set.
use Rattle.std.proofs.Common.{◌≡◌, ◌⊎◌, ℕ, ◌<◌, Bool, true, false, Some, Option, List, [], ◌++◌, refl, sym, ◌∙◌, subst, inl, inr, slice_set, Result, Ok, Err, IfOk, OnOk, IsTrue, arith, ◌==◌}
use Rattle.diag_known.proofs.Vocabulary.{false≢true, or_left, nat_tests, length-set, append-nil, has_number, Shape, Ends, in_order, turned}
use Rattle.diag_known.proofs.Vocabulary.{ends_of, crosses_of, Faults, IsFaultless, holds_earlier, Marks, Support, VerifiedWire}
use Rattle.diag_evidence.specs.Kept.{Kept, HoldsUntried, IsMore, Gains, one_cross, keeps_cross}
use Rattle.diag_known.specs.Vocabulary.{HasWire, is_spent, IsSecondMark, AreMarks, AreMarksOver, OffersAtMost, IsLost, IsLinkTo, IsKeptUnlessStuck, IsFaulty}
use Rattle.diag_known.proofs.Counting.{set_only}
use Rattle.diag_known.proofs.Losing.{kept_later, lost_one_later}
use Rattle.diag_known.proofs.Marking.{MarksOne, offered_one, second_one, between_one, fit_faultless}
use Rattle.diag_known.proofs.Places.{has_later}

pub second_mark_later : {told : Option Faults} {k l : Kept} {ss : List VerifiedWire} {x : ℕ} (ts : List VerifiedWire) → IsMore k l → IsSecondMark told k ss x → IsSecondMark told l (ss ++ ts) x
second_mark_later {told} {k} {l} {ss} {x} ts more s = record {
  from = s.from;
  to = s.to;
  at = subst (λ (m : Shape). Ends (ends_of m x) s.from s.to) (sym more.shape) s.at;
  known = has_later ts s.known;
  found = later s.found;
}
  where
    later : (keeps_cross k x ≡ true) ⊎ (HasWire ss s.to ⊎ IsLost told k ss s.to x) → (keeps_cross l x ≡ true) ⊎ (HasWire (ss ++ ts) s.to ⊎ IsLost told l (ss ++ ts) s.to x)
    later (inl e) = inl (more.crosses x e)
    later (inr (inl h)) = inr (inl (has_later ts h))
    later (inr (inr p)) = inr (inr (lost_one_later ts more p))

-- there is a mark for each wire and each crosspoint still: after tests, and where one is set
pub over_later : {k l : Kept} {s : Marks} → IsMore k l → AreMarksOver k.shape s → AreMarksOver l.shape s
over_later {s = s} more over = subst (λ (m : Shape). AreMarksOver m s) (sym more.shape) over

pub over_offered : {m : Shape} {s t : Marks} (x : ℕ) → AreMarksOver m s → t ≡ record s { offered = slice_set s.offered x true } → AreMarksOver m t
over_offered {m} {s} x over e = subst (AreMarksOver m) (sym e) (record { barred = over.barred; offered = length-set s.offered x true ∙ over.offered; second = over.second; between = over.between })

pub over_second : {m : Shape} {s t : Marks} (x : ℕ) → AreMarksOver m s → t ≡ record s { second = slice_set s.second x true } → AreMarksOver m t
over_second {m} {s} x over e = subst (AreMarksOver m) (sym e) (record { barred = over.barred; offered = over.offered; second = length-set s.second x true ∙ over.second; between = over.between })

pub over_between : {m : Shape} {s t : Marks} (x : ℕ) → AreMarksOver m s → t ≡ record s { between = slice_set s.between x true } → AreMarksOver m t
over_between {m} {s} x over e = subst (AreMarksOver m) (sym e) (record { barred = over.barred; offered = over.offered; second = over.second; between = length-set s.between x true ∙ over.between })

pub over_barred : {m : Shape} {s t : Marks} (w : ℕ) → AreMarksOver m s → t ≡ record s { barred = slice_set s.barred w true } → AreMarksOver m t
over_barred {m} {s} w over e = subst (AreMarksOver m) (sym e) (record { barred = length-set s.barred w true ∙ over.barred; offered = over.offered; second = over.second; between = over.between })

pub over_offers : {k : Kept} {m : Shape} {s t : Marks} {before after : ℕ} (x : ℕ) → OffersAtMost k x s t before after → AreMarksOver m s → AreMarksOver m t
over_offers {m = m} x (inl same) over = subst (AreMarksOver m) (sym same.0) over
over_offers x (inr one) over = over_offered x over one.marks

-- more is kept and known
pub marks_later : {told : Option Faults} {k l : Kept} {ss : List VerifiedWire} {s : Marks} (ts : List VerifiedWire) → IsMore k l → AreMarks told k ss s → AreMarks told l (ss ++ ts) s
marks_later ts more are = record {
  over = over_later more are.over;
  seconds = λ x on. second_mark_later ts more (are.seconds x on);
  joined = λ x on. kept_later more (are.joined x on);
  spent = λ f told none holds x on. more.crosses x (are.spent f told none (holds_earlier more holds) x on);
}

-- .. only kept
pub marks_still : {told : Option Faults} {k l : Kept} {ss : List VerifiedWire} {s : Marks} → IsMore k l → AreMarks told k ss s → AreMarks told l ss s
marks_still {told} {k} {l} {ss} {s} more are = subst (λ rs. AreMarks told l rs s) (append-nil ss) (marks_later [] more are)

-- a mark is set, at a crosspoint that without faults is kept now
module _ {told : Option Faults} {k l : Kept} {ss : List VerifiedWire} {s : Marks} (x : ℕ) (are : AreMarks told k ss s) (more : IsMore k l)
    (kept : (f : Faults) → told ≡ Some f → IsFaultless f → HoldsUntried l f → keeps_cross l x ≡ true) where
  spent_one : {new : Marks} → MarksOne x s new → (f : Faults) → told ≡ Some f → IsFaultless f → HoldsUntried l f → (y : ℕ) → is_spent new y ≡ true → keeps_cross l y ≡ true
  spent_one one f is none holds y on = by_mark (one.only y on)
    where
      by_mark : (is_spent s y ≡ true) ⊎ (x ≡ y) → keeps_cross l y ≡ true
      by_mark (inl old) = (marks_still more are).spent f is none holds y old
      by_mark (inr e) = subst (λ z. keeps_cross l z ≡ true) e (kept f is none holds)

  pub marks_offered : {t : Marks} → x < crosses_of k.shape → t ≡ record s { offered = slice_set s.offered x true } → AreMarks told l ss t
  marks_offered within e = let later : AreMarks told l ss s = marks_still more are in subst (AreMarks told l ss) (sym e) (record {
    over = over_offered x later.over refl;
    seconds = later.seconds;
    joined = later.joined;
    spent = spent_one (offered_one s x (subst (λ n. x < n) (sym are.over.offered) within));
  })

  pub marks_second : {t : Marks} → x < crosses_of k.shape → t ≡ record s { second = slice_set s.second x true } → IsSecondMark told l ss x → AreMarks told l ss t
  marks_second within e mark = let later : AreMarks told l ss s = marks_still more are in subst (AreMarks told l ss) (sym e) (record {
    over = over_second x later.over refl;
    seconds = λ y on. by_mark y (set_only s.second x y on);
    joined = later.joined;
    spent = spent_one (second_one s x (subst (λ n. x < n) (sym are.over.second) within));
  })
    where
      by_mark : (y : ℕ) → (has_number s.second y ≡ true) ⊎ (x ≡ y) → IsSecondMark told l ss y
      by_mark y (inl on) = (marks_still more are).seconds y on
      by_mark y (inr same) = subst (IsSecondMark told l ss) same mark

  pub marks_between : {t : Marks} → x < crosses_of k.shape → t ≡ record s { between = slice_set s.between x true } → IsKeptUnlessStuck told l x → AreMarks told l ss t
  marks_between within e mark = let later : AreMarks told l ss s = marks_still more are in subst (AreMarks told l ss) (sym e) (record {
    over = over_between x later.over refl;
    seconds = later.seconds;
    joined = λ y on. by_mark y (set_only s.between x y on);
    spent = spent_one (between_one s x (subst (λ n. x < n) (sym are.over.between) within));
  })
    where
      by_mark : (y : ℕ) → (has_number s.between y ≡ true) ⊎ (x ≡ y) → IsKeptUnlessStuck told l y
      by_mark y (inl on) = (marks_still more are).joined y on
      by_mark y (inr same) = subst (IsKeptUnlessStuck told l) same mark

-- a wire is barred
pub marks_barred : {told : Option Faults} {k : Kept} {ss : List VerifiedWire} {s t : Marks} (w : ℕ) → AreMarks told k ss s → t ≡ record s { barred = slice_set s.barred w true } → AreMarks told k ss t
marks_barred {told} {k} {ss} {s} {t} w are e = subst (AreMarks told k ss) (sym e) (record {
  over = over_barred w are.over refl;
  seconds = are.seconds;
  joined = are.joined;
  spent = are.spent;
})

-- a toggle that is bound to pass without faults
pub kept_by : (told : Option Faults) (l : Kept) (x : ℕ) {E : Type 0} (r : Result Bool E) → IfOk r (λ yes. IsTrue yes → keeps_cross l x ≡ true) →
    IfOk r (λ yes. yes ≡ false → IsFaulty told l) →
    OnOk r ((f : Faults) → told ≡ Some f → IsFaultless f → HoldsUntried l f → keeps_cross l x ≡ true)
kept_by told l x (Ok true) kept none = λ f is fault holds. kept refl
kept_by told l x (Ok false) kept none = λ f is fault holds. absurd ((none refl).at f is fault holds)
kept_by told l x (Err e) kept none = tt

-- what an answer says, and what follows from it
pub on_ok_so : {T E P Q : Type 0} (r : Result T E) → OnOk r P → (P → Q) → OnOk r Q
on_ok_so (Ok x) p h = h p
on_ok_so (Err e) p h = tt

pub if_ok_so : {T E : Type 0} {P Q : T → Type 0} (r : Result T E) → IfOk r P → ((x : T) → P x → Q x) → IfOk r Q
if_ok_so (Ok x) p h = h x p
if_ok_so (Err e) p h = tt

pub faulty_later : {told : Option Faults} {k l : Kept} → IsMore k l → IsFaulty told k → IsFaulty told l
faulty_later more p = record { at = λ f is none holds. p.at f is none (holds_earlier more holds) }

-- .. the same for each of some faults
pub kept_each : (X : Faults → Type 0) (k l : Kept) (x : ℕ) {E : Type 0} (r : Result Bool E) → IsMore k l → IfOk r (λ yes. IsTrue yes → keeps_cross l x ≡ true) →
    IfOk r (λ yes. (f : Faults) → X f → yes ≡ false → IsFaulty (Some f) k) → OnOk r ((f : Faults) → X f → (h : Faults) → Some f ≡ Some h → IsFaultless h → HoldsUntried l h → keeps_cross l x ≡ true)
kept_each X k l x {E} (Ok true) more kept none = λ f e. kept_by (Some f) l x {E = E} (Ok true) kept (λ is_no. faulty_later more (none f e is_no))
kept_each X k l x {E} (Ok false) more kept none = λ f e. kept_by (Some f) l x {E = E} (Ok false) kept (λ is_no. faulty_later more (none f e is_no))
kept_each X k l x (Err e) more kept none = tt

-- a crosspoint that was toggled is kept
pub kept_cross : {k l : Kept} (x : ℕ) → Gains (one_cross x) k l → keeps_cross l x ≡ true
kept_cross {k} {l} x gains = gains.crosses x ∙ or_left (x == x) (keeps_cross k x) (let same : (x == x) ≡ true = grind (arith, nat_tests) in same)

pub lost_faulty : {told : Option Faults} {k : Kept} {ss : List VerifiedWire} {w x : ℕ} → ¬ HasWire ss w → IsLost told k ss w x → IsFaulty told k
lost_faulty {x = x} new lost = record { at = λ f is none holds. lost.at f is holds (fit_faultless none new) (none.crosses x) }

-- two crosspoints with the same ends
pub ends_same : {p : ℕ × ℕ} {a b c d : ℕ} → Ends p a b → Ends p c d → ((a ≡ c) × (b ≡ d)) ⊎ ((a ≡ d) × (b ≡ c))
ends_same (in_order s t) (in_order u v) = inl (sym s ∙ u, sym t ∙ v)
ends_same (in_order s t) (turned u v) = inr (sym s ∙ u, sym t ∙ v)
ends_same (turned s t) (in_order u v) = inr (sym t ∙ v, sym s ∙ u)
ends_same (turned s t) (turned u v) = inl (sym t ∙ v, sym s ∙ u)

-- a crosspoint that was toggled over another one, and isn't kept
pub second_lost : {told : Option Faults} {k : Kept} {ss : List VerifiedWire} {w u x : ℕ} → IsSecondMark told k ss x → Ends (ends_of k.shape x) u w → ¬ HasWire ss w → keeps_cross k x ≡ false → IsLost told k ss w x
second_lost {told} {k} {ss} {w} {u} {x} m at new fresh = by_ends (ends_same m.at at)
  where
    by_found : m.to ≡ w → (keeps_cross k x ≡ true) ⊎ (HasWire ss m.to ⊎ IsLost told k ss m.to x) → IsLost told k ss w x
    by_found e (inl kept) = absurd (false≢true (sym fresh ∙ kept))
    by_found e (inr (inl has)) = absurd (new (subst (HasWire ss) e has))
    by_found e (inr (inr lost)) = subst (λ v. IsLost told k ss v x) e lost

    by_ends : ((m.from ≡ u) × (m.to ≡ w)) ⊎ ((m.from ≡ w) × (m.to ≡ u)) → IsLost told k ss w x
    by_ends (inl e) = by_found e.1 m.found
    by_ends (inr e) = absurd (new (subst (HasWire ss) e.0 m.known))

-- .. as it is marked then
pub second_mark_by : (told : Option Faults) (k : Kept) {ss : List VerifiedWire} {w : ℕ} {a : Support} {E : Type 0} (r : Result Bool E) → IsLinkTo k.shape ss w a → IfOk r (λ yes. IsTrue yes → keeps_cross k a.cross.0 ≡ true) →
    IfOk r (λ yes. yes ≡ false → IsLost told k ss w a.cross.0) → OnOk r (IsSecondMark told k ss a.cross.0)
second_mark_by told k {w = w} {a = a} (Ok true) link kept lost = record { from = a.wire.0; to = w; at = link.at; known = link.known; found = inl (kept refl) }
second_mark_by told k {w = w} {a = a} (Ok false) link kept lost = record { from = a.wire.0; to = w; at = link.at; known = link.known; found = inr (inr (lost refl)) }
second_mark_by told k (Err e) link kept lost = tt

pub link_still : {k l : Kept} {ss : List VerifiedWire} {w : ℕ} {a : Support} → IsMore k l → IsLinkTo k.shape ss w a → IsLinkTo l.shape ss w a
link_still {ss = ss} {w = w} {a = a} more link = subst (λ (m : Shape). IsLinkTo m ss w a) (sym more.shape) link

-- what follows from an answer
pub on_both : {T E A B C : Type 0} (r : Result T E) → OnOk r A → OnOk r B → (A → B → C) → OnOk r C
on_both (Ok x) a b h = h a b
on_both (Err e) a b h = tt
