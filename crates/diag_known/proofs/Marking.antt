-- Marks, and the loads that they stand for.
use Rattle.std.proofs.Common.{◌≡◌, ◌≢◌, ◌⊎◌, ℕ, ◌+◌, ◌*◌, ◌<◌, ◌≤◌, Bool, true, false, Some, Option, List, length, refl, sym, ap, ◌∙◌, subst, inl, inr, arith, ◌||◌, slice_set}
use Rattle.diag_known.proofs.Vocabulary.{false≢true, has_number, Shape, pin_wire, pins_of, wires_of, crosses_of, Faults, IsFaultless, Kept}
use Rattle.diag_known.proofs.Vocabulary.{HoldsFor, IsMore, keeps_cross, holds_untried, Marks, VerifiedWire}
use native.Mathlib.Decide.{dec_lt}
use Rattle.machine_meaning.proofs.Clear.{clear_of_sound}
use Rattle.machine_meaning.proofs.Faultless.{all_sound}
use Rattle.diag_known.specs.Vocabulary.{how_many, HasWire, is_spent, most_loads, few_loads, barred_pins, TakesForWire, Spends, SpendsFew, AreMarks, AreMarksOver, IsFit}
use Rattle.diag_known.proofs.Counting.{many_one, set_below, set_has, set_most, set_only, set_stays, set_one}

-- without faults each wire that isn't known is fit
pub fit_faultless : {m : Shape} {f : Faults} {ss : List VerifiedWire} {w : ℕ} → IsFaultless f → ¬ HasWire ss w → IsFit m f ss w
fit_faultless {ss = ss} {w = w} none new = record {
  clear = clear_of_sound (all_sound none w);
  alone = λ u has s. new (subst (HasWire ss) ((all_sound none w).alone u s) has);
}

-- what was toggled
pub by_three : (a b c : Bool) {P : Type 0} → (a || (b || c)) ≡ true → (a ≡ true → P) → (b ≡ true → P) → (c ≡ true → P) → P
by_three true b c on f g h = f refl
by_three false true c on f g h = g refl
by_three false false c on f g h = h on

pub first_of : (a b c : Bool) → a ≡ true → (a || (b || c)) ≡ true
first_of a b c e = rw e refl

pub second_of : (a b c : Bool) → b ≡ true → (a || (b || c)) ≡ true
second_of true b c e = refl
second_of false b c e = rw e refl

pub third_of : (a b c : Bool) → c ≡ true → (a || (b || c)) ≡ true
third_of true b c e = refl
third_of false true c e = refl
third_of false false c e = e

none_of : (a b c : Bool) → (a || (b || c)) ≡ false → (a ≡ false) × ((b ≡ false) × (c ≡ false))
none_of true b c e = absurd (false≢true (sym e))
none_of false true c e = absurd (false≢true (sym e))
none_of false false c e = (refl, (refl, e))

or_this : {A B C : Type 0} → (A → C) → A ⊎ B → C ⊎ B
or_this f (inl a) = inl (f a)
or_this f (inr b) = inr b

-- one crosspoint more is marked
pub record MarksOne (x : ℕ) (old new : Marks) : Type 0 where
  pub more : (y : ℕ) → is_spent old y ≡ true → is_spent new y ≡ true
  pub only : (y : ℕ) → is_spent new y ≡ true → (is_spent old y ≡ true) ⊎ (x ≡ y)
  pub this : is_spent new x ≡ true
  pub barred : new.barred ≡ old.barred

module _ (s : Marks) (x : ℕ) where
  abbrev o : ℕ → Bool
  o = has_number s.offered

  abbrev t : ℕ → Bool
  t = has_number s.second

  abbrev b : ℕ → Bool
  b = has_number s.between

  pub offered_one : x < length s.offered → MarksOne x s (record s { offered = slice_set s.offered x true })
  offered_one within = record {
    more = λ y on. by_three (o y) (t y) (b y) on (λ e. first_of _ (t y) (b y) (set_stays s.offered x y e)) (second_of _ (t y) (b y)) (third_of _ (t y) (b y));
    only = λ y on. by_three _ (t y) (b y) on (λ e. or_this (first_of (o y) (t y) (b y)) (set_only s.offered x y e)) (λ e. inl (second_of (o y) (t y) (b y) e)) (λ e. inl (third_of (o y) (t y) (b y) e));
    this = first_of _ (t x) (b x) (set_has s.offered x within);
    barred = refl;
  }

  pub second_one : x < length s.second → MarksOne x s (record s { second = slice_set s.second x true })
  second_one within = record {
    more = λ y on. by_three (o y) (t y) (b y) on (first_of (o y) _ (b y)) (λ e. second_of (o y) _ (b y) (set_stays s.second x y e)) (third_of (o y) _ (b y));
    only = λ y on. by_three (o y) _ (b y) on (λ e. inl (first_of (o y) (t y) (b y) e)) (λ e. or_this (second_of (o y) (t y) (b y)) (set_only s.second x y e)) (λ e. inl (third_of (o y) (t y) (b y) e));
    this = second_of (o x) _ (b x) (set_has s.second x within);
    barred = refl;
  }

  pub between_one : x < length s.between → MarksOne x s (record s { between = slice_set s.between x true })
  between_one within = record {
    more = λ y on. by_three (o y) (t y) (b y) on (first_of (o y) (t y) _) (second_of (o y) (t y) _) (λ e. third_of (o y) (t y) _ (set_stays s.between x y e));
    only = λ y on. by_three (o y) (t y) _ on (λ e. inl (first_of (o y) (t y) (b y) e)) (λ e. inl (second_of (o y) (t y) (b y) e)) (λ e. or_this (third_of (o y) (t y) (b y)) (set_only s.between x y e));
    this = third_of (o x) (t x) _ (set_has s.between x within);
    barred = refl;
  }

-- loads, one part after the other
alike : (p n before after : ℕ) → after ≡ before → after + p + n ≤ before + p + n
alike p n before after loads = omega (arith, loads)

pub spends_none : {k : Kept} {these : ℕ → Type 0} {s t : Marks} {before after : ℕ} → t ≡ s → after ≡ before → Spends k these s t before after
spends_none {k} {these} {s} {t} {before} {after} same loads = subst (λ u. Spends k these s u before after) (sym same) (record {
  only = λ x on. inl on;
  fresh = λ x on. inl on;
  most = alike (barred_pins k.shape s) (most_loads k.shape s) before after loads;
})

pub few_none : {told : Option Faults} {k : Kept} {s t : Marks} {before after : ℕ} → t ≡ s → after ≡ before → SpendsFew told k s t before after
few_none {told} {k} {s} {t} {before} {after} same loads =
    subst (λ u. SpendsFew told k s u before after) (sym same) (record { few = λ f is none holds. alike (barred_pins k.shape s) (few_loads k.shape s) before after loads })

pub spends_in : {k : Kept} {these those : ℕ → Type 0} {s t : Marks} {before after : ℕ} → ((x : ℕ) → these x → those x) → Spends k these s t before after → Spends k those s t before after
spends_in {these = these} {those = those} {s = s} put p = record { only = λ x on. by_old x (p.only x on); fresh = p.fresh; most = p.most }
  where
    by_old : (x : ℕ) → (is_spent s x ≡ true) ⊎ these x → (is_spent s x ≡ true) ⊎ those x
    by_old x (inl e) = inl e
    by_old x (inr h) = inr (put x h)

-- what isn't kept later wasn't before
fresh_before : {k l : Kept} → IsMore k l → (x : ℕ) → keeps_cross l x ≡ false → keeps_cross k x ≡ false
fresh_before {k} {l} more x off = by_bit (keeps_cross k x) refl
  where
    by_bit : (b : Bool) → keeps_cross k x ≡ b → b ≡ false
    by_bit true e = absurd (false≢true (sym off ∙ more.crosses x e))
    by_bit false e = refl

chain : (v w z x y n a b c : ℕ) → b + w + x ≤ a + v + y → c + z + y ≤ b + w + n → c + z + x ≤ a + v + n
chain v w z x y n a b c one two = omega (arith, one, two)

pub spends_then : {k l : Kept} {these : ℕ → Type 0} {s t u : Marks} {a b c : ℕ} → IsMore k l → Spends k these s t a b → Spends l these t u b c → Spends k these s u a c
spends_then {k} {l} {these} {s} {t} {u} {a} {b} {c} more p q = record {
  only = λ x on. by_mid x (q.only x on);
  fresh = λ x on. by_fresh x (q.fresh x on);
  most = (let two = subst (λ (m : Shape). c + barred_pins m u + most_loads m t ≤ b + barred_pins m t + most_loads m u) more.shape q.most in
      chain (barred_pins k.shape s) (barred_pins k.shape t) (barred_pins k.shape u) (most_loads k.shape s) (most_loads k.shape t) (most_loads k.shape u) a b c p.most two);
}
  where
    by_mid : (x : ℕ) → (is_spent t x ≡ true) ⊎ these x → (is_spent s x ≡ true) ⊎ these x
    by_mid x (inl e) = p.only x e
    by_mid x (inr h) = inr h

    by_fresh : (x : ℕ) → (is_spent t x ≡ true) ⊎ (keeps_cross l x ≡ false) → (is_spent s x ≡ true) ⊎ (keeps_cross k x ≡ false)
    by_fresh x (inl e) = p.fresh x e
    by_fresh x (inr off) = inr (fresh_before more x off)

pub few_then : {told : Option Faults} {k l : Kept} {s t u : Marks} {a b c : ℕ} → IsMore k l → ((f : Faults) → told ≡ Some f → HoldsFor k f → HoldsFor l f) →
    SpendsFew told k s t a b → SpendsFew told l t u b c → SpendsFew told k s u a c
few_then {told} {k} {l} {s} {t} {u} {a} {b} {c} more later p q = record {
  few = λ f is none holds.
      (let two = subst (λ (m : Shape). c + barred_pins m u + few_loads m t ≤ b + barred_pins m t + few_loads m u) more.shape (q.few f is none (later f is holds)) in
      chain (barred_pins k.shape s) (barred_pins k.shape t) (barred_pins k.shape u) (few_loads k.shape s) (few_loads k.shape t) (few_loads k.shape u) a b c (p.few f is none holds) two);
}

-- a crosspoint that wasn't kept is marked, and two loads are made
unspent : {told : Option Faults} {k : Kept} {ss : List VerifiedWire} {s : Marks} {f : Faults} (x : ℕ) → AreMarks told k ss s → keeps_cross k x ≡ false → told ≡ Some f → IsFaultless f → HoldsFor k f → is_spent s x ≡ false
unspent {k = k} {s = s} {f = f} x are fresh is none holds = by_bit (is_spent s x) refl
  where
    by_bit : (b : Bool) → is_spent s x ≡ b → b ≡ false
    by_bit true e = absurd (false≢true (sym fresh ∙ are.spent f is none (holds_untried holds) x e))
    by_bit false e = refl

pins_same : (m : Shape) (s t : Marks) → t.barred ≡ s.barred → barred_pins m t ≡ barred_pins m s
pins_same m s t same = ap (λ bits. how_many (λ i. has_number bits (pin_wire m i)) (pins_of m)) same

few_one : {told : Option Faults} {k : Kept} {ss : List VerifiedWire} {s t : Marks} {x : ℕ} {f : Faults} (before after : ℕ) → AreMarks told k ss s → x < crosses_of k.shape → keeps_cross k x ≡ false → MarksOne x s t → after ≤ before + 2 →
    told ≡ Some f → IsFaultless f → HoldsFor k f → after + barred_pins k.shape t + few_loads k.shape s ≤ before + barred_pins k.shape s + few_loads k.shape t
few_one {k = k} {s = s} {t = t} {x = x} before after are within fresh one loads is none holds =
    sums _ _ _ _ _ _ (many_one (is_spent s) (is_spent t) (crosses_of k.shape) x within (unspent x are fresh is none holds) one.this (λ y less on. one.more y on)) (ap (λ bits. how_many (has_number bits) (wires_of k.shape)) one.barred) (pins_same k.shape s t one.barred)
  where
    sums : (p q v w a b : ℕ) → p + 1 ≤ q → w ≡ v → b ≡ a → after + b + (2 * p + 3 * v) ≤ before + a + (2 * q + 3 * w)
    sums p q v w a b less same pins = omega (arith, less, same, pins, loads)

few_marked : {told : Option Faults} {k : Kept} {ss : List VerifiedWire} {s t : Marks} {x : ℕ} (before after : ℕ) → AreMarks told k ss s → x < crosses_of k.shape → keeps_cross k x ≡ false → MarksOne x s t → after ≤ before + 2 → SpendsFew told k s t before after
few_marked before after are within fresh one loads = record { few = λ f is none holds. few_one before after are within fresh one loads is none holds }

spends_one : {k : Kept} {these : ℕ → Type 0} {s t : Marks} {x : ℕ} (before after : ℕ) → these x → keeps_cross k x ≡ false → MarksOne x s t → after + most_loads k.shape s ≤ before + most_loads k.shape t → Spends k these s t before after
spends_one {k = k} {these = these} {s = s} {t = t} {x = x} before after this fresh one most = record {
  only = λ y on. by_this y (one.only y on);
  fresh = λ y on. by_fresh y (one.only y on);
  most = sums _ _ _ _ (pins_same k.shape s t one.barred) most;
}
  where
    by_this : (y : ℕ) → (is_spent s y ≡ true) ⊎ (x ≡ y) → (is_spent s y ≡ true) ⊎ these y
    by_this y (inl e) = inl e
    by_this y (inr e) = inr (subst these e this)

    by_fresh : (y : ℕ) → (is_spent s y ≡ true) ⊎ (x ≡ y) → (is_spent s y ≡ true) ⊎ (keeps_cross k y ≡ false)
    by_fresh y (inl e) = inl e
    by_fresh y (inr e) = inr (ap (keeps_cross k) (sym e) ∙ fresh)

    sums : (p q v w : ℕ) → q ≡ p → after + v ≤ before + w → after + q + v ≤ before + p + w
    sums p q v w same less = omega (arith, same, less)

four_parts : (a b c d e f g h before after : ℕ) → after ≤ before + 4 → a + 1 ≤ e → b ≤ f → c ≤ g → d ≤ h → after + (4 * a + 2 * b + 2 * c + 3 * d) ≤ before + (4 * e + 2 * f + 2 * g + 3 * h)
four_parts a b c d e f g h before after loads p q r s = omega (arith, loads, p, q, r, s)

two_parts : (a b c d e f g h before after : ℕ) → after ≤ before + 2 → a ≤ e → (b + c) + 1 ≤ f + g → d ≤ h → after + (4 * a + 2 * b + 2 * c + 3 * d) ≤ before + (4 * e + 2 * f + 2 * g + 3 * h)
two_parts a b c d e f g h before after loads p q s = omega (arith, loads, p, q, s)

itself : (n : ℕ) → n ≤ n
itself n = omega arith

one_at : (bits : List Bool) {n x : ℕ} → length bits ≡ n → x < n → has_number bits x ≡ false → how_many (has_number bits) n + 1 ≤ how_many (has_number (slice_set bits x true)) n
one_at bits {n} {x} len within off = subst (λ m. how_many (has_number bits) m + 1 ≤ how_many (has_number (slice_set bits x true)) m) len (set_one bits x (subst (λ m. x < m) (sym len) within) off)

pub most_offered : {m : Shape} {s : Marks} {x : ℕ} (before after : ℕ) → AreMarksOver m s → x < crosses_of m → has_number s.offered x ≡ false → after ≤ before + 4 → after + most_loads m s ≤ before + most_loads m (record s { offered = slice_set s.offered x true })
most_offered {s = s} before after over within off loads = four_parts _ _ _ _ _ _ _ _ before after loads (one_at s.offered over.offered within off) (itself _) (itself _) (itself _)

module _ {k : Kept} {s : Marks} {x : ℕ} (before after : ℕ) (over : AreMarksOver k.shape s) (within : x < crosses_of k.shape) where
  pub spends_offered : {these : ℕ → Type 0} {t : Marks} → these x → keeps_cross k x ≡ false → has_number s.offered x ≡ false → t ≡ record s { offered = slice_set s.offered x true } → after ≤ before + 2 → Spends k these s t before after
  spends_offered {these} {t} this fresh off marks loads = subst (λ u. Spends k these s u before after) (sym marks)
      (spends_one before after this fresh (offered_one s x (subst (λ n. x < n) (sym over.offered) within)) (most_offered before after over within off (omega (arith, loads))))

  pub spends_second : {these : ℕ → Type 0} {t : Marks} → these x → keeps_cross k x ≡ false → has_number s.second x ≡ false → t ≡ record s { second = slice_set s.second x true } → after ≤ before + 2 → Spends k these s t before after
  spends_second {these} {t} this fresh off marks loads = subst (λ u. Spends k these s u before after) (sym marks)
      (spends_one before after this fresh (second_one s x (subst (λ n. x < n) (sym over.second) within))
      (two_parts _ _ _ _ _ _ _ _ before after loads (itself _) (let less = one_at s.second over.second within off in omega (arith, less)) (itself _)))

  pub spends_between : {these : ℕ → Type 0} {t : Marks} → these x → keeps_cross k x ≡ false → has_number s.between x ≡ false → t ≡ record s { between = slice_set s.between x true } → after ≤ before + 2 → Spends k these s t before after
  spends_between {these} {t} this fresh off marks loads = subst (λ u. Spends k these s u before after) (sym marks)
      (spends_one before after this fresh (between_one s x (subst (λ n. x < n) (sym over.between) within))
      (two_parts _ _ _ _ _ _ _ _ before after loads (itself _) (let less = one_at s.between over.between within off in omega (arith, less)) (itself _)))

-- .. where there are no faults
module _ {told : Option Faults} {k : Kept} {ss : List VerifiedWire} {s : Marks} {x : ℕ} (before after : ℕ) (are : AreMarks told k ss s) (within : x < crosses_of k.shape) where
  pub few_offered : {t : Marks} → keeps_cross k x ≡ false → t ≡ record s { offered = slice_set s.offered x true } → after ≤ before + 2 → SpendsFew told k s t before after
  few_offered {t} fresh marks loads = subst (λ u. SpendsFew told k s u before after) (sym marks)
      (few_marked before after are within fresh (offered_one s x (subst (λ n. x < n) (sym are.over.offered) within)) loads)

  pub few_second : {t : Marks} → keeps_cross k x ≡ false → t ≡ record s { second = slice_set s.second x true } → after ≤ before + 2 → SpendsFew told k s t before after
  few_second {t} fresh marks loads = subst (λ u. SpendsFew told k s u before after) (sym marks)
      (few_marked before after are within fresh (second_one s x (subst (λ n. x < n) (sym are.over.second) within)) loads)

  pub few_between : {t : Marks} → keeps_cross k x ≡ false → t ≡ record s { between = slice_set s.between x true } → after ≤ before + 2 → SpendsFew told k s t before after
  few_between {t} fresh marks loads = subst (λ u. SpendsFew told k s u before after) (sym marks)
      (few_marked before after are within fresh (between_one s x (subst (λ n. x < n) (sym are.over.between) within)) loads)

-- one wire more is barred, and one pin at most, which is that wire
pins_most : (m : Shape) (bits : List Bool) (w : ℕ) → how_many (λ i. has_number (slice_set bits w true) (pin_wire m i)) (pins_of m) ≤ how_many (λ i. has_number bits (pin_wire m i)) (pins_of m) + 1
unfolding pin_wire
pins_most m bits w = set_most bits w (pins_of m)

pins_still : (m : Shape) (bits : List Bool) (w : ℕ) → pins_of m ≤ w → how_many (λ i. has_number (slice_set bits w true) (pin_wire m i)) (pins_of m) ≡ how_many (λ i. has_number bits (pin_wire m i)) (pins_of m)
unfolding pin_wire
pins_still m bits w low = set_below bits w (pins_of m) low

is_pin_wire : (m : Shape) (w : ℕ) → w ≡ pin_wire m w
unfolding pin_wire
is_pin_wire m w = refl

-- a wire is barred, and three loads are made, or two if it is a pin
one_barred : {m : Shape} {s : Marks} {w : ℕ} → AreMarksOver m s → w < wires_of m → has_number s.barred w ≡ false → how_many (has_number s.barred) (wires_of m) + 1 ≤ how_many (has_number (slice_set s.barred w true)) (wires_of m)
one_barred {s = s} over within off = one_at s.barred over.barred within off

three_barred : {m : Shape} {w : ℕ} (s : Marks) (before after : ℕ) → TakesForWire m w before after → after + barred_pins m (record s { barred = slice_set s.barred w true }) ≤ before + barred_pins m s + 3
three_barred {m} {w} s before after loads = by_place (dec_lt w (pins_of m))
  where
    by_place : Dec (w < pins_of m) → after + barred_pins m (record s { barred = slice_set s.barred w true }) ≤ before + barred_pins m s + 3
    by_place (yes low) = let two = loads.pin w low (is_pin_wire m w) in let more = pins_most m s.barred w in omega (arith, two, more)
    by_place (no high) = let three = loads.wire in let same = pins_still m s.barred w (omega (arith, high)) in omega (arith, three, same)

module _ {k : Kept} {s : Marks} {w : ℕ} (before after : ℕ) (over : AreMarksOver k.shape s) (within : w < wires_of k.shape) (off : has_number s.barred w ≡ false) where
  pub spends_barred : {t : Marks} {these : ℕ → Type 0} → t ≡ record s { barred = slice_set s.barred w true } → TakesForWire k.shape w before after → Spends k these s t before after
  spends_barred {t} {these} marks loads = subst (λ u. Spends k these s u before after) (sym marks) (record {
    only = λ x on. inl on;
    fresh = λ x on. inl on;
    most = sum _ _ _ _ _ _ _ (three_barred s before after loads) (one_barred over within off);
  })
    where
      sum : (a b c d e p q : ℕ) → after + q ≤ before + p + 3 → d + 1 ≤ e → after + q + (4 * a + 2 * b + 2 * c + 3 * d) ≤ before + p + (4 * a + 2 * b + 2 * c + 3 * e)
      sum a b c d e p q three less = omega (arith, three, less)

  pub few_barred : {told : Option Faults} {t : Marks} → t ≡ record s { barred = slice_set s.barred w true } → TakesForWire k.shape w before after → SpendsFew told k s t before after
  few_barred {told} {t} marks loads = subst (λ u. SpendsFew told k s u before after) (sym marks) (record { few = λ f is none holds. sum _ _ _ _ _ (three_barred s before after loads) (one_barred over within off) })
    where
      sum : (a d e p q : ℕ) → after + q ≤ before + p + 3 → d + 1 ≤ e → after + q + (2 * a + 3 * d) ≤ before + p + (2 * a + 3 * e)
      sum a d e p q three less = omega (arith, three, less)

-- so many loads are few enough
pub takes_two : {m : Shape} {w before after : ℕ} → after ≤ before + 2 → TakesForWire m w before after
takes_two two = record { wire = omega (arith, two); pin = λ i low e. two }

pub takes_three : {m : Shape} {w before after : ℕ} → ((i : ℕ) → i < pins_of m → w ≢ pin_wire m i) → after ≤ before + 3 → TakesForWire m w before after
takes_three none three = record { wire = three; pin = λ i low e. absurd (none i low e) }
