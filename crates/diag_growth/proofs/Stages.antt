-- Growth, one part after the other.
use Rattle.std.proofs.Common.{◌≡◌, ◌⊎◌, ℕ, ◌<◌, ◌≤◌, Bool, true, false, Some, Option, List, [], ◌∷◌, ◌++◌, length, refl, sym, ap, ◌∙◌, subst, inl, inr, arith, append_assoc, slice_get, slice_set}
use Rattle.diag_growth.proofs.Vocabulary.{false≢true, has_number, Faults, Kept, IsMore, IsGrown, IsOneMore, IsLooked, StayBarred, AreTried}
use Rattle.diag_growth.proofs.Vocabulary.{Grows, Field, VerifiedWire, set_only, set_stays, tried_later, known_later, get_pushed}
use Rattle.std.proofs.lemmas.List.{append-nil, length-append, length-set}
use Rattle.diag_known.specs.Vocabulary.{IsTried, KnownWires, HasWire, IsKnown, KnowsAll, BarsAtMost}
use Rattle.diag_growth.proofs.Growing.{grown_later, looked_later}

-- what was barred without a cause, and with one
pub tried_none : {told : Option Faults} {k : Kept} {ss : List VerifiedWire} {old new : List Bool} → new ≡ old → AreTried told k ss old new
tried_none same = record { tried = λ w on. inl (ap (λ bits. has_number bits w) (sym same) ∙ on) }

pub tried_one : {told : Option Faults} {k : Kept} {ss : List VerifiedWire} {old new : List Bool} {w : ℕ} → new ≡ slice_set old w true → IsTried told k ss w → AreTried told k ss old new
tried_one {told} {k} {ss} {old} {new} {w} e tried = record { tried = λ v on. by_place v (set_only old w v (ap (λ bits. has_number bits v) (sym e) ∙ on)) }
  where
    by_place : (v : ℕ) → (has_number old v ≡ true) ⊎ (w ≡ v) → (has_number old v ≡ true) ⊎ IsTried told k ss v
    by_place v (inl on) = inl on
    by_place v (inr same) = inr (subst (IsTried told k ss) same tried)

pub tried_then : {told : Option Faults} {k l : Kept} {ss ts : List VerifiedWire} {x y z : List Bool} (more : List VerifiedWire) → ts ≡ ss ++ more → IsMore k l → AreTried told k ss x y → AreTried told l ts y z → AreTried told l ts x z
tried_then {told} {k} {l} {ss} {ts} {x} {y} {z} rest e more first second = record { tried = λ w on. by_second w (second.tried w on) }
  where
    by_first : (w : ℕ) → (has_number x w ≡ true) ⊎ IsTried told k ss w → (has_number x w ≡ true) ⊎ IsTried told l ts w
    by_first w (inl on) = inl on
    by_first w (inr t) = inr (subst (λ rs. IsTried told l rs w) (sym e) (tried_later rest more t))

    by_second : (w : ℕ) → (has_number y w ≡ true) ⊎ IsTried told l ts w → (has_number x w ≡ true) ⊎ IsTried told l ts w
    by_second w (inl on) = by_first w (first.tried w on)
    by_second w (inr t) = inr t

-- nothing grows
pub grows_itself : {k l : Kept} {known : KnownWires} {old new : List Bool} → IsKnown k known → IsMore k l → KnowsAll l known.steps → new ≡ old → Grows l known known old new
grows_itself {known = known} {old = old} is more all same = record {
  known = known_later more is;
  all = all;
  shape = refl;
  more = [];
  steps = sym (append-nil known.steps);
  within = λ w h. inl h;
  stays = record { stays = λ w on. ap (λ bits. has_number bits w) same ∙ on };
  len = ap length same;
}

free_before : {old new : List Bool} → StayBarred old new → (w : ℕ) → has_number new w ≡ false → has_number old w ≡ false
free_before {old = old} stays w off = by_bit (has_number old w) refl
  where
    by_bit : (t : Bool) → has_number old w ≡ t → has_number old w ≡ false
    by_bit true e = absurd (false≢true (sym off ∙ stays.stays w e))
    by_bit false e = e

pub grows_then : {k l : Kept} {a b c : KnownWires} {x y z : List Bool} → Grows k a b x y → Grows l b c y z → Grows l a c x z
grows_then {k} {l} {a} {b} {c} {x} {y} {z} g h = record {
  known = h.known;
  all = h.all;
  shape = h.shape ∙ g.shape;
  more = g.more ++ h.more;
  steps = h.steps ∙ ap (λ (ss : List VerifiedWire). ss ++ h.more) g.steps ∙ append_assoc a.steps g.more h.more;
  within = λ w has. within_first w (h.within w has);
  stays = record { stays = λ w on. h.stays.stays w (g.stays.stays w on) };
  len = h.len ∙ g.len;
}
  where
    within_first : (w : ℕ) → HasWire b.steps w ⊎ ((has_number y w ≡ false) × (w < length y)) → HasWire a.steps w ⊎ ((has_number x w ≡ false) × (w < length x))
    within_first w (inl has) = g.within w has
    within_first w (inr off) = inr (free_before g.stays w off.0, subst (λ n. w < n) g.len off.1)

-- what was found stays found
pub grown_on : {told : Option Faults} {k l : Kept} {field : Field} {a b : KnownWires} {x y : List Bool} {n : ℕ} → IsMore k l → n ≤ length a.steps → Grows l a b x y → IsGrown told k field a.steps x n → IsGrown told l field b.steps y n
grown_on {told} {k} {l} {field} {a} {b} {x} {y} {n} more le g p = subst (λ ss. IsGrown told l field ss y n) (sym g.steps) (grown_later g.more more le g.stays p)

pub looked_on : {told : Option Faults} {k l : Kept} {field : Field} {a b : KnownWires} {x y : List Bool} {n c w : ℕ} → IsMore k l → n ≤ length a.steps → Grows l a b x y → IsLooked told k field a.steps x n c w → IsLooked told l field b.steps y n c w
looked_on {told} {k} {l} {field} {a} {b} {x} {y} {n} {c} {w} more le g p = subst (λ ss. IsLooked told l field ss y n c w) (sym g.steps) (looked_later g.more more le g.stays p)

pub longer : {k : Kept} {a b : KnownWires} {x y : List Bool} → Grows k a b x y → length a.steps ≤ length b.steps
longer {a = a} g = let e = ap length g.steps ∙ length-append a.steps g.more in omega (arith, e)

-- one wire more, which wasn't barred
pub grows_one : {k : Kept} {a b : KnownWires} {x y : List Bool} {w : ℕ} → IsKnown k b → KnowsAll k b.steps → IsOneMore a b w → has_number x w ≡ false → w < length x → BarsAtMost w x y → Grows k a b x y
grows_one {k} {a} {b} {x} {y} {w} is all one free low bars = by_steps one.steps
  where
    stays : BarsAtMost w x y → StayBarred x y
    stays (inl same) = record { stays = λ v on. ap (λ bits. has_number bits v) same ∙ on }
    stays (inr set) = record { stays = λ v on. ap (λ bits. has_number bits v) set ∙ set_stays x w v on }

    len : BarsAtMost w x y → length y ≡ length x
    len (inl same) = ap length same
    len (inr set) = ap length set ∙ length-set x w true

    within_one : (s : VerifiedWire) → s.wire.0 ≡ w → b.steps ≡ a.steps ++ s ∷ [] → (v : ℕ) → HasWire b.steps v → HasWire a.steps v ⊎ ((has_number x v ≡ false) × (v < length x))
    within_one s e steps v has = by_place (get_pushed a.steps s has.place has.at.step (subst (λ ss. slice_get ss has.place ≡ Some has.at.step) steps has.at.here))
      where
        by_place : (slice_get a.steps has.place ≡ Some has.at.step) ⊎ ((has.place ≡ length a.steps) × (s ≡ has.at.step)) → HasWire a.steps v ⊎ ((has_number x v ≡ false) × (v < length x))
        by_place (inl h) = inl (record { place = has.place; at = record { step = has.at.step; here = h; wire = has.at.wire } })
        by_place (inr h) = let same : v ≡ w = sym has.at.wire ∙ ap (λ (t : VerifiedWire). t.wire.0) (sym h.1) ∙ e in inr (ap (has_number x) same ∙ free, subst (λ u. u < length x) (sym same) low)

    by_steps : (b.steps ≡ a.steps) ⊎ ((s : VerifiedWire) × (s.wire.0 ≡ w) × (b.steps ≡ a.steps ++ s ∷ [])) → Grows k a b x y
    by_steps (inl e) = record { known = is; all = all; shape = one.shape; more = []; steps = e ∙ sym (append-nil a.steps); within = λ v has. inl (subst (λ ss. HasWire ss v) e has); stays = stays bars; len = len bars }
    by_steps (inr p) = record { known = is; all = all; shape = one.shape; more = p.0 ∷ []; steps = p.2; within = within_one p.0 p.1 p.2; stays = stays bars; len = len bars }
