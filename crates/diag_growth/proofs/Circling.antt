-- Growth from pin to pin.
use Rattle.std.proofs.Common.{◌≡◌, ◌⊎◌, ℕ, ◌+◌, ◌*◌, ◌<◌, ◌≤◌, Bool, true, false, Some, Option, List, length, sym, ap, ◌∙◌, subst, inl, inr, arith, replicate, slice_set}
use Rattle.diag_growth.proofs.Vocabulary.{length-replicate, has_number, size_of, Shape, Faults, Kept, HoldsFor, IsMore, IsGrown, IsOneMore}
use Rattle.diag_growth.proofs.Vocabulary.{Field, Marks, VerifiedWire, none_has, set_has, by_three, few_then, spends_then, has_later}
use native.Mathlib.Decide.{ℕ_discrete}
use Rattle.machine_shape.specs.Vocabulary.{IsTree, HasMeetings, pins_of, wires_of, crosses_of, pin_wire}
use Rattle.diag_known.specs.Vocabulary.{IsFieldOf, ClosedIf, GrowsIn, TakesFew, fresh, pins_in, KnownWires, HasWire, IsKnown, KnowsAll, AreOutside, is_spent, AreMarks, AreMarksOver, Spends, SpendsFew}
use Rattle.diag_growth.specs.Looks.{AreAllMarks, AreTried, Grows, IsOfField}
use Rattle.diag_growth.proofs.Ending.{closed, grows_in}
use Rattle.diag_growth.proofs.Leaving.{all_later}
use Rattle.diag_growth.proofs.Stages.{grows_one, grows_then, tried_then}
use Rattle.diag_growth.proofs.Taken.{takes_most, takes_few}

-- a pin was tried, and is barred
module _ {m : Shape} {s t : Marks} {w : ℕ} (over : AreMarksOver m s) (low : w < wires_of m) where
  pub pin_has : t ≡ record s { barred = slice_set s.barred w true } → has_number t.barred w ≡ true
  pin_has marks = ap (λ (u : Marks). has_number u.barred w) marks ∙ set_has s.barred w (subst (λ n. w < n) (sym over.barred) low)

  pub pin_grows : {l : Kept} {a b : KnownWires} → has_number s.barred w ≡ false → IsKnown l b → KnowsAll l b.steps → IsOneMore a b w → t ≡ record s { barred = slice_set s.barred w true } → Grows l a b s.barred t.barred
  pin_grows free is all one marks = grows_one is all one free (subst (λ n. w < n) (sym over.barred) low) (inr (ap (λ (u : Marks). u.barred) marks))

pub pin_marks : {told : Option Faults} {k l : Kept} {field : Field} {a b : KnownWires} {s t : Marks} (w : ℕ) → IsMore k l → Grows l a b s.barred t.barred → AreAllMarks told k field a.steps s → AreMarks told l b.steps t →
    t ≡ record s { barred = slice_set s.barred w true } → AreAllMarks told l field b.steps t
pin_marks w more g all are marks = all_later more g all are (λ x on. inl (ap (λ (u : Marks). has_number u.offered x) (sym marks) ∙ on))

-- how known wires have spread, and what that took, once the first n pins were tried
pub record HasSpread (j k : Kept) (a : Field) (old known : KnownWires) (start now : Marks) (before after n : ℕ) : Type 0 where
  pub outside : AreOutside a.wires start.barred
  pub len : length start.barred ≡ length a.wires
  pub unspent : (x : ℕ) → is_spent start x ≡ true → ⊥
  pub grows : Grows k old known start.barred now.barred
  pub pins : (i : ℕ) → i < n → HasWire known.steps (pin_wire k.shape i) ⊎ (has_number now.barred (pin_wire k.shape i) ≡ true)
  pub over : AreMarksOver k.shape now
  pub spends : Spends j (IsOfField a) start now before after

-- .. and what was found by that
pub record IsGrowing (told : Option Faults) (j k : Kept) (a : Field) (known : KnownWires) (start now : Marks) (before after : ℕ) : Type 0 where
  pub tried : AreTried told k known.steps start.barred now.barred
  pub grown : IsGrown told k a known.steps now.barred (length known.steps)
  pub marks : AreAllMarks told k a known.steps now
  pub few : SpendsFew told j start now before after

-- the first marks
pub record AreFirst (a : Field) (s : Marks) : Type 0 where
  pub len : length s.barred ≡ length a.wires
  pub offered : s.offered ≡ replicate (length a.crosses) false
  pub second : s.second ≡ replicate (length a.crosses) false
  pub between : s.between ≡ replicate (length a.crosses) false

no_number : (n : ℕ) (bits : List Bool) → bits ≡ replicate n false → (x : ℕ) → has_number bits x ≡ true → ⊥
no_number n bits e x on = none_has n x (ap (λ bits. has_number bits x) (sym e) ∙ on)

pub first_unspent : {a : Field} {s : Marks} → AreFirst a s → (x : ℕ) → is_spent s x ≡ true → ⊥
first_unspent {a} {s} first x on = by_three (has_number s.offered x) (has_number s.second x) (has_number s.between x) on (no_number _ _ first.offered x) (no_number _ _ first.second x) (no_number _ _ first.between x)

pub first_over : {m : Shape} {a : Field} {s : Marks} → IsFieldOf m a → AreFirst a s → AreMarksOver m s
first_over {m} {a} field first = record { barred = first.len ∙ field.wires; offered = as_long first.offered; second = as_long first.second; between = as_long first.between }
  where
    as_long : {bits : List Bool} → bits ≡ replicate (length a.crosses) false → length bits ≡ crosses_of m
    as_long e = ap length e ∙ length-replicate (length a.crosses) false ∙ field.crosses

pub first_marks : {told : Option Faults} {k : Kept} {a : Field} {ss : List VerifiedWire} {s : Marks} → IsFieldOf k.shape a → AreFirst a s → AreAllMarks told k a ss s
first_marks field first = record {
  are = record {
    over = first_over field first;
    seconds = λ x on. absurd (no_number _ _ first.second x on);
    joined = λ x on. absurd (no_number _ _ first.between x on);
    spent = λ f is none holds x on. absurd (first_unspent first x on);
  };
  offers = λ x on. absurd (no_number _ _ first.offered x on);
}

-- the same number of known wires
pub grown_at : {told : Option Faults} {k : Kept} {a : Field} {ss : List VerifiedWire} {barred : List Bool} {m n : ℕ} → m ≡ n → IsGrown told k a ss barred m → IsGrown told k a ss barred n
grown_at {told} {k} {a} {ss} {barred} same grown = subst (IsGrown told k a ss barred) same grown

-- nothing was looked at so far
pub grown_none : {told : Option Faults} {k : Kept} {a : Field} {ss : List VerifiedWire} {barred : List Bool} → IsGrown told k a ss barred 0
grown_none = record {
  between = λ x u w links differ b c. absurd (let e = b.early in let no : ⊥ = omega (arith, e) in no);
  seconds = λ w x y u v links also differ b c. absurd (let e = b.early in let no : ⊥ = omega (arith, e) in no);
}

-- once known wires were looked at, and no pin was tried
pub spread_first : {j k : Kept} {a : Field} {old known : KnownWires} {start now : Marks} {before after : ℕ} → AreOutside a.wires start.barred → AreFirst a start → Grows k old known start.barred now.barred → AreMarksOver k.shape now →
    Spends j (IsOfField a) start now before after → HasSpread j k a old known start now before after 0
spread_first outside first grows over spends = record {
  outside = outside;
  len = first.len;
  unspent = first_unspent first;
  grows = grows;
  pins = λ i less. absurd (let no : ⊥ = omega (arith, less) in no);
  over = over;
  spends = spends;
}

-- .. by what says so of right marks, since the first are
pub growing_start : {told : Option Faults} {j k : Kept} {a : Field} {ss : List VerifiedWire} {known : KnownWires} {start now : Marks} {before after : ℕ} → IsFieldOf j.shape a → AreFirst a start →
    (AreAllMarks told j a ss start → AreTried told k known.steps start.barred now.barred) →
    (AreAllMarks told j a ss start → IsGrown told j a ss start.barred 0 → IsGrown told k a known.steps now.barred (length known.steps)) →
    (AreAllMarks told j a ss start → AreAllMarks told k a known.steps now) → (AreAllMarks told j a ss start → SpendsFew told j start now before after) → IsGrowing told j k a known start now before after
growing_start {told = told} {j = j} {a = a} {ss = ss} {start = start} field first tried grown marks few = record { tried = tried right; grown = grown right grown_none; marks = marks right; few = few right }
  where
    right : AreAllMarks told j a ss start
    right = first_marks field first

-- one pin more
pub growing_next : {told : Option Faults} {j k l : Kept} {a : Field} {known new : KnownWires} {start now next : Marks} {x y : List Bool} {before mid after : ℕ} → IsMore j k → ((f : Faults) → told ≡ Some f → HoldsFor j f → HoldsFor k f) → IsMore k l →
    IsGrowing told j k a known start now before mid → Grows l known new x y → AreTried told l new.steps now.barred next.barred → IsGrown told l a new.steps next.barred (length new.steps) → AreAllMarks told l a new.steps next →
    SpendsFew told k now next mid after → IsGrowing told j l a new start next before after
growing_next earlier holds more g step tried grown marks few = record {
  tried = tried_then step.more step.steps more g.tried tried;
  grown = grown;
  marks = marks;
  few = few_then earlier holds g.few few;
}

pub spread_next : {j k l : Kept} {a : Field} {old known new : KnownWires} {start now next : Marks} {before mid after n : ℕ} → IsMore j k → IsMore k l → HasSpread j k a old known start now before mid n →
    Grows l known new now.barred next.barred → HasWire new.steps (pin_wire k.shape n) ⊎ (has_number next.barred (pin_wire k.shape n) ≡ true) → AreMarksOver l.shape next → Spends k (IsOfField a) now next mid after →
    HasSpread j l a old new start next before after (n + 1)
spread_next {j} {k} {l} {a} {old} {known} {new} {start} {now} {next} {before} {mid} {after} {n} earlier more s step pin over spends = record {
  outside = s.outside;
  len = s.len;
  unspent = s.unspent;
  grows = grows_then s.grows step;
  pins = λ i less. subst (λ (m : Shape). HasWire new.steps (pin_wire m i) ⊎ (has_number next.barred (pin_wire m i) ≡ true)) (sym more.shape) (by_place i less (ℕ_discrete i n));
  over = over;
  spends = spends_then earlier s.spends spends;
}
  where
    later : (w : ℕ) → HasWire known.steps w ⊎ (has_number now.barred w ≡ true) → HasWire new.steps w ⊎ (has_number next.barred w ≡ true)
    later w (inl has) = inl (subst (λ (ss : List VerifiedWire). HasWire ss w) (sym step.steps) (has_later step.more has))
    later w (inr on) = inr (step.stays.stays w on)

    by_place : (i : ℕ) → i < n + 1 → Dec (i ≡ n) → HasWire new.steps (pin_wire k.shape i) ⊎ (has_number next.barred (pin_wire k.shape i) ≡ true)
    by_place i less (yes e) = subst (λ j. HasWire new.steps (pin_wire k.shape j) ⊎ (has_number next.barred (pin_wire k.shape j) ≡ true)) (sym e) pin
    by_place i less (no other) = later (pin_wire k.shape i) (s.pins i (omega (arith, less, other)))

pub growing_closed : {told : Option Faults} {j k : Kept} {a : Field} {old known : KnownWires} {start now : Marks} {before after n : ℕ} → IsFieldOf k.shape a → IsTree k.shape → HasMeetings k.shape → pins_of k.shape ≤ n →
    HasSpread j k a old known start now before after n → IsGrowing told j k a known start now before after → ClosedIf told k a known.steps
growing_closed field tree meetings le s g = closed field tree meetings s.outside g.tried g.grown (λ i less. s.pins i (omega (arith, less, le)))

-- what holds at every end
pub grows_nothing : {a : Field} (ss : List VerifiedWire) → GrowsIn a ss ss
grows_nothing ss = record { stays = λ w has. has; within = λ w has. inl has }

pub spread_in : {j k l : Kept} {a : Field} {old known new : KnownWires} {start now : Marks} {next : List Bool} {before mid n : ℕ} → HasSpread j k a old known start now before mid n →
    Grows l known new now.barred next → GrowsIn a old.steps new.steps
spread_in s step = grows_in s.outside s.len (grows_then s.grows step)

module _ {j k : Kept} {a : Field} {old known : KnownWires} {start now next : Marks} {before mid after n : ℕ} (s : HasSpread j k a old known start now before mid n) (field : IsFieldOf j.shape a)
    (earlier : IsMore j k) (spends : Spends k (IsOfField a) now next mid after) where
  pub spread_most : after + pins_in j.shape a ≤ before + (8 * fresh j a + 3 * size_of a.wires)
  spread_most = takes_most field s.outside s.unspent (spends_then earlier s.spends spends)

  pub growing_few : {told : Option Faults} → ((f : Faults) → told ≡ Some f → HoldsFor j f → HoldsFor k f) → IsGrowing told j k a known start now before mid → SpendsFew told k now next mid after → TakesFew told j a before after
  growing_few holds g few = takes_few field s.outside s.unspent (spends_then earlier s.spends spends) (few_then earlier holds g.few few)
