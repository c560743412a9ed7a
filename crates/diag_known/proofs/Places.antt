-- Places of known wires.
use Rattle.std.proofs.Common.{◌≡◌, ◌≢◌, ◌⊎◌, ℕ, zero, suc, ◌+◌, ◌<◌, Bool, true, false, Some, List, [], ◌∷◌, ◌++◌, length, refl, sym, ap, ◌∙◌, subst, inl, inr, arith, slice_get}
use Rattle.diag_known.proofs.Vocabulary.{false≢true, Kept, keeps_pair, no_pair_itself, Down, Support, SupportedBy, VerifiedWire}
use Rattle.std.proofs.lemmas.Option.{slice_get_within}
use Rattle.diag_known.specs.Vocabulary.{KnownWires, IsAt, IsBefore, HasWire, IsFoot, IsKnown, Stands, on_pin, on_feet, AreTwo, IsPinAt, IsPinHere, Stays, StepsDown, StepsAlong, IsPin}
use Rattle.diag_known.specs.declared.verified_wire.SupportedBy.TheVariants as stand
use native.Mathlib.Decide.{dec_lt}
use native.Mathlib.Decide.{ℕ_discrete}

module _ {A : Type 0} where
  -- what stood at a place stays there when a list goes on
  pub get_before : (xs ys : List A) (i : ℕ) (x : A) → slice_get xs i ≡ Some x → slice_get (xs ++ ys) i ≡ Some x
  get_before [] ys i x e = cc
  get_before (y ∷ xs) ys zero x e = e
  get_before (y ∷ xs) ys (suc i) x e = get_before xs ys i x e

  pub get_last : (xs : List A) (x : A) → slice_get (xs ++ x ∷ []) (length xs) ≡ Some x
  get_last [] x = refl
  get_last (y ∷ xs) x = get_last xs x

  -- what stands at a place of a list with one more
  pub get_pushed : (xs : List A) (x : A) (i : ℕ) (y : A) → slice_get (xs ++ x ∷ []) i ≡ Some y → (slice_get xs i ≡ Some y) ⊎ ((i ≡ length xs) × (x ≡ y))
  get_pushed [] x zero y e = inr (refl, cc)
  get_pushed [] x (suc i) y e = cc
  get_pushed (z ∷ xs) x zero y e = inl e
  get_pushed (z ∷ xs) x (suc i) y e = next (get_pushed xs x i y e)
    where
      next : (slice_get xs i ≡ Some y) ⊎ ((i ≡ length xs) × (x ≡ y)) → (slice_get xs i ≡ Some y) ⊎ ((suc i ≡ length (z ∷ xs)) × (x ≡ y))
      next (inl h) = inl h
      next (inr h) = inr (ap suc h.0, h.1)

pub some_same : {A : Type 0} {x y : A} → Some x ≡ Some y → x ≡ y
some_same e = cc

-- known wires stay where they are
pub at_later : {ss : List VerifiedWire} {i w : ℕ} (ts : List VerifiedWire) → IsAt ss i w → IsAt (ss ++ ts) i w
at_later {ss} {i} ts at = record { step = at.step; here = get_before ss ts i at.step at.here; wire = at.wire }

pub before_later : {ss : List VerifiedWire} {n w : ℕ} (ts : List VerifiedWire) → IsBefore ss n w → IsBefore (ss ++ ts) n w
before_later ts b = record { place = b.place; early = b.early; at = at_later ts b.at }

pub has_later : {ss : List VerifiedWire} {w : ℕ} (ts : List VerifiedWire) → HasWire ss w → HasWire (ss ++ ts) w
has_later ts h = record { place = h.place; at = at_later ts h.at }

pub before_has : {ss : List VerifiedWire} {n w : ℕ} → IsBefore ss n w → HasWire ss w
before_has b = record { place = b.place; at = b.at }

-- each known wire has one place
module _ {k : Kept} {known : KnownWires} (is : IsKnown k known) where
  not_before : (i j w : ℕ) → i < j → IsAt known.steps i w → IsAt known.steps j w → ⊥
  not_before i j w below at on =
      let pair : keeps_pair k w on.step.wire.0 ≡ true = (is.steps j on.step on.here).apart w (record { place = i; early = below; at = at }) in
      false≢true (sym (no_pair_itself k w) ∙ subst (λ u. keeps_pair k w u ≡ true) on.wire pair)

  pub one_place : {i j w : ℕ} → IsAt known.steps i w → IsAt known.steps j w → i ≡ j
  one_place {i} {j} {w} at on = by_less (dec_lt i j) (dec_lt j i)
    where
      by_less : Dec (i < j) → Dec (j < i) → i ≡ j
      by_less (yes h) o = absurd (not_before i j w h at on)
      by_less (no h) (yes o) = absurd (not_before j i w o on at)
      by_less (no h) (no o) = omega arith

-- the step that stands at a pin's place
pub pin_here : {k : Kept} {known : KnownWires} → IsKnown k known → (i : ℕ) (s : VerifiedWire) (n : ℕ) → slice_get known.steps i ≡ Some s → s.stand ≡ stand.Pin n → IsPinAt k known.steps i n
pin_here {k} {known} is i s n here e = pin_is (subst (λ (d : SupportedBy). Stands k known.steps i s.wire.0 d) e ((is.steps i s here).stands))
  where
    pin_is : Stands k known.steps i s.wire.0 (stand.Pin n) → IsPinAt k known.steps i n
    pin_is (on_pin within wire) = record { step = s; here = here; stand = e; within = within; wire = wire }

-- one wire stands at a place
pub at_one : {ss : List VerifiedWire} {i v w : ℕ} → IsAt ss i v → IsAt ss i w → v ≡ w
at_one at on = sym at.wire ∙ ap (λ (s : VerifiedWire). s.wire.0) (some_same (sym at.here ∙ on.here)) ∙ on.wire

pub at_within : {ss : List VerifiedWire} {i w : ℕ} → IsAt ss i w → i < length ss
at_within {ss} {i} at = slice_get_within ss i at.step at.here

-- a step down leads to a place before, and to another than that of the other wire
pub foot_known : {k : Kept} {ss : List VerifiedWire} {i j : ℕ} {d : Down} → StepsAlong k ss i j d → HasWire ss d.foot.wire.0
foot_known {k} {ss} {i} {j} {d} s = by_side d.left refl
  where
    by_side : (b : Bool) → d.left ≡ b → HasWire ss d.foot.wire.0
    by_side true e = before_has (s.left e).stands.before
    by_side false e = before_has (s.right e).stands.before

pub record LeadsBelow (ss : List VerifiedWire) (i j u : ℕ) : Type 0 where
  pub two : AreTwo ss u j
  pub less : u < i

pub leads_below : {k : Kept} {known : KnownWires} → IsKnown k known → {i j u : ℕ} {foot : Support} → j < length known.steps → StepsDown k known.steps i j foot → IsAt known.steps u foot.wire.0 → LeadsBelow known.steps i j u
leads_below {k} {known} is {i} {j} {u} {foot} within d at = record {
  two = (at_within at, within, λ e. d.apart (at_one (subst (λ p. IsAt known.steps p foot.wire.0) e at) (record { step = d.other; here = d.there; wire = refl })));
  less = let early = d.stands.before.early in let same : d.stands.before.place ≡ u = one_place is d.stands.before.at at in omega (arith, early, same);
}

-- what a wire on feet stands on
pub record StandsOn (k : Kept) (ss : List VerifiedWire) (i w : ℕ) (a b : Support) : Type 0 where
  pub one : IsFoot k ss i w a
  pub other : IsFoot k ss i w b
  pub differ : a.wire.0 ≢ b.wire.0

pub feet_here : {k : Kept} {known : KnownWires} → IsKnown k known → (i : ℕ) (s : VerifiedWire) (a b : Support) → slice_get known.steps i ≡ Some s → s.stand ≡ stand.Feet a b → StandsOn k known.steps i s.wire.0 a b
feet_here {k} {known} is i s a b here e = feet_are (subst (λ (d : SupportedBy). Stands k known.steps i s.wire.0 d) e ((is.steps i s here).stands))
  where
    feet_are : Stands k known.steps i s.wire.0 (stand.Feet a b) → StandsOn k known.steps i s.wire.0 a b
    feet_are (on_feet g h differ) = record { one = g; other = h; differ = differ }

pub steps_down : {k : Kept} {known : KnownWires} → IsKnown k known → (i j : ℕ) (s t : VerifiedWire) (a b : Support) → slice_get known.steps i ≡ Some s → s.stand ≡ stand.Feet a b → slice_get known.steps j ≡ Some t →
    (foot : Support) → (foot ≡ a) ⊎ (foot ≡ b) → foot.wire.0 ≢ t.wire.0 → IsPin t.stand ⊎ (j < i) → StepsDown k known.steps i j foot
steps_down {k} {known} is i j s t a b here e there foot which apart early = by_foot which
  where
    on : StandsOn k known.steps i s.wire.0 a b
    on = feet_here is i s a b here e

    by_foot : (foot ≡ a) ⊎ (foot ≡ b) → StepsDown k known.steps i j foot
    by_foot (inl f) = record { step = s; here = here; other = t; there = there; below = (b, inl (e ∙ ap (λ (x : Support). stand.Feet x b) (sym f))); stands = subst (IsFoot k known.steps i s.wire.0) (sym f) on.one; apart = apart; early = early }
    by_foot (inr f) = record { step = s; here = here; other = t; there = there; below = (a, inr (e ∙ ap (λ (x : Support). stand.Feet a x) (sym f))); stands = subst (IsFoot k known.steps i s.wire.0) (sym f) on.other; apart = apart; early = early }

-- where neither steps down both are pins
pub both_pins : {ss : List VerifiedWire} {i j : ℕ} → Stays ss i j → Stays ss j i → IsPinHere ss i
both_pins {ss} {i} {j} s t = by_why s.why t.why
  where
    by_why : IsPin s.step.stand ⊎ ((i < j) × (¬ IsPin s.other.stand)) → IsPin t.step.stand ⊎ ((j < i) × (¬ IsPin t.other.stand)) → IsPinHere ss i
    by_why (inl pin) why = record { step = s.step; here = s.here; pin = pin }
    by_why (inr late) (inl pin) = absurd (late.1 (subst (λ (x : VerifiedWire). IsPin x.stand) (some_same (sym t.here ∙ s.there)) pin))
    by_why (inr late) (inr early) = absurd (let one = late.0 in let two = early.0 in let no : ⊥ = omega (arith, one, two) in no)

-- one place more was looked at
pub one_more : (P : ℕ → Type 0) (n : ℕ) → ((i : ℕ) → i < n → P i) → P n → (i : ℕ) → i < n + 1 → P i
one_more P n old new i less = by (ℕ_discrete i n)
  where
    by : Dec (i ≡ n) → P i
    by (yes e) = subst P (sym e) new
    by (no d) = old i (omega (arith, less, d))
