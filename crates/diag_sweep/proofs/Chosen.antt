-- What a choice leaves: of what is known some gives way, and what is left to spend.
use Rattle.std.proofs.Common.{◌≡◌, ◌⊎◌, inl, inr, ℕ, ◌+◌, ◌≤◌, Bool, true, false, not, ◌&&◌, Option, List, [], length, replicate, refl, sym, ap, ◌∙◌, subst, arith, slice_set}
use Rattle.diag_sweep.proofs.Vocabulary.{false≢true, and_parts, has_number, size_of, Shape, Faults, Kept, keeps_cross, how_many, HasWire}
use Rattle.diag_sweep.proofs.Vocabulary.{InSet, KnownWires, Field, VerifiedWire, IsFunded, IsHand, in_hand, DefectMarks, LoadBudget}
use Rattle.diag_known.proofs.Counting.{many_more, many_size, none_has, set_only}
use Rattle.diag_sweep.specs.Marks.{AreMarksFor, HasTable, MarksButUnfit, MarksIn, MarksSome, TrueIf, is_undecided, undecided, worth}
use Rattle.diag_sweep.proofs.Budgets.{size_undecided}

-- a purse of what is left
pub funded_of : {k : Kept} {b : DefectMarks} {a : Field} {loads most : ℕ} {set : List Bool} (left : ℕ) (known : KnownWires) → length set ≡ length a.crosses → ((x : ℕ) → has_number set x ≡ (has_number a.crosses x && is_undecided k b x)) → loads ≤ most → most ≤ loads + left →
    IsFunded (worth a k b loads left) a (in_hand k known b (record { most = most; unsettled = set }) loads)
funded_of {k} {b} {a} {set = set} left known len has low high = record {
  paid = low;
  within = (let same = size_undecided k b a set len has in omega (arith, same, high));
  whole = λ x on is. has x ∙ ap (λ (t : Bool). t && is_undecided k b x) on ∙ is;
}

-- what is left of it in the end
pub worth_paid : (limit left : ℕ) {l : Kept} {c : DefectMarks} {a : Field} {known : KnownWires} {budget : LoadBudget} {after : ℕ} → IsHand a (in_hand l known c budget after) → IsFunded limit a (in_hand l known c budget after) → (after ≤ budget.most → after + left ≤ budget.most) →
    worth a l c after left ≤ limit
worth_paid limit left {l} {c} {a} {budget = budget} hand f kept =
    let within = f.within in
    let rest = kept f.paid in
    let few : undecided l c a ≤ size_of budget.unsettled = subst (λ n. undecided l c a ≤ n) (ap (how_many (has_number budget.unsettled)) (hand.field.crosses ∙ sym hand.budget) ∙ many_size budget.unsettled)
    (many_more (λ x. has_number a.crosses x && is_undecided l c x) (has_number budget.unsettled) (length a.crosses) (λ x less on. let two = and_parts (has_number a.crosses x) (is_undecided l c x) on in f.whole x two.0 two.1)) in
    omega (arith, within, rest, few)

-- .. where nothing is kept of it
pub worth_none : (limit left : ℕ) {l : Kept} {c : DefectMarks} {a : Field} {known : KnownWires} {budget : LoadBudget} {after : ℕ} → IsHand a (in_hand l known c budget after) → IsFunded limit a (in_hand l known c budget after) → left ≡ 0 → worth a l c after left ≤ limit
worth_none limit left {budget = budget} {after = after} hand f e = worth_paid limit left hand f (λ low. omega (arith, low, e))

-- the marks of unfit wires are no matter, nor is what is kept but crosspoints
pub worth_less : (k l : Kept) (c d : DefectMarks) (a : Field) (loads left : ℕ) {limit : ℕ} → ((x : ℕ) → keeps_cross l x ≡ keeps_cross k x) → d.stuck ≡ c.stuck → worth a k c loads left ≤ limit → worth a l d loads left ≤ limit
worth_less k l c d a loads left {limit} crosses same paid =
    let few : undecided l d a ≤ undecided k c a = many_more (λ x. has_number a.crosses x && is_undecided l d x) (λ x. has_number a.crosses x && is_undecided k c x) (length a.crosses)
    (λ x less on. ap (λ t. has_number a.crosses x && (not t && not (has_number c.stuck x))) (sym (crosses x)) ∙ ap (λ (s : List Bool). has_number a.crosses x && (not (keeps_cross l x) && not (has_number s x))) (sym same) ∙ on) in
    omega (arith, few, paid)

none_on : (n w : ℕ) → has_number (replicate n false) w ≡ false
none_on n w = by (has_number (replicate n false) w) refl
  where
    by : (b : Bool) → has_number (replicate n false) w ≡ b → b ≡ false
    by false e = refl
    by true e = absurd (none_has n w e)

-- the known wires of a set, one more at a time
module _ {ss : List VerifiedWire} where
  pub among_none : (set : List Bool) (n : ℕ) → set ≡ replicate n false → (w : ℕ) → InSet set w → HasWire ss w
  among_none set n is w on = absurd (false≢true (sym (none_on n w) ∙ subst (λ (s : List Bool). has_number s w ≡ true) is on))

  pub among_next : (old new : List Bool) (u : ℕ) → ((w : ℕ) → InSet old w → HasWire ss w) → HasWire ss u → new ≡ slice_set old u true → (w : ℕ) → InSet new w → HasWire ss w
  among_next old new u all has is w on = by (set_only old u w (subst (λ (s : List Bool). has_number s w ≡ true) is on))
    where
      by : (has_number old w ≡ true) ⊎ (u ≡ w) → HasWire ss w
      by (inl before) = all w before
      by (inr same) = subst (HasWire ss) same has

-- Without the marks of unfit wires they are true of whatever is known.
pub true_of_any : {k : Kept} {ss ts : List VerifiedWire} {b : DefectMarks} (unfit : List Bool) (n : ℕ) → unfit ≡ replicate n false → (told : Option Faults) → TrueIf told k ss b → TrueIf told k ts (record b { unfit = unfit })
true_of_any {k} {ss} {ts} {b} unfit n none told t = record {
  at = λ f e. let old = t.at f e in (
    old.0,
    record {
      stuck = old.1.stuck;
      unfit = λ w on clear alone. absurd (false≢true (sym (none_on n w) ∙ subst (λ (s : List Bool). has_number s w ≡ true) none on));
      unclear = old.1.unclear;
      wrong = old.1.wrong;
    },
  );
}

pub marks_cleared : {m : Shape} {b : DefectMarks} (unfit : List Bool) → length unfit ≡ length b.unfit → AreMarksFor m b → AreMarksFor m (record b { unfit = unfit })
marks_cleared unfit len are = record { stuck = are.stuck; unfit = len ∙ are.unfit; unclear = are.unclear; wrong = are.wrong }

-- what a choice leaves of the marks
pub unfit_none : (unfit : List Bool) (n : ℕ) → unfit ≡ replicate n false → (w : ℕ) → has_number unfit w ≡ false
unfit_none unfit n none w = ap (λ (s : List Bool). has_number s w) none ∙ none_on n w

pub none_unfit : (was is : List Bool) (n : ℕ) → is ≡ replicate n false → (w : ℕ) → has_number is w ≡ true → has_number was w ≡ true
none_unfit was is n none w on = absurd (false≢true (sym (unfit_none is n none w) ∙ on))

-- .. where looks marked some before it
pub but_unfit : {a : Field} (old mid new : DefectMarks) → MarksIn a [] old mid → new.stuck ≡ mid.stuck → new.unclear ≡ mid.unclear → new.wrong ≡ mid.wrong → ((w : ℕ) → has_number new.unfit w ≡ true → has_number mid.unfit w ≡ true) →
    MarksButUnfit a old new
but_unfit {a} old mid new m stuck unclear wrong unfit = record {
  stuck = subst (MarksSome (λ x. has_number a.crosses x ≡ true) old.stuck) (sym stuck) m.stuck;
  unfit = λ w on. m.unfit.within w (unfit w on);
  unclear = subst (MarksSome (λ w. has_number a.wires w ≡ true) old.unclear) (sym unclear) m.unclear;
  wrong = subst (MarksSome (HasTable []) old.wrong) (sym wrong) m.wrong;
}

pub but_itself : {a : Field} (old new : DefectMarks) → MarksIn a [] old new → MarksButUnfit a old new
but_itself old new m = record { stuck = m.stuck; unfit = m.unfit.within; unclear = m.unclear; wrong = m.wrong }
