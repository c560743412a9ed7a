-- What stands by kept crosspoints, wire by wire.
use Rattle.std.proofs.Common.{◌≡◌, ◌≢◌, ◌⊎◌, ℕ, zero, suc, ◌<◌, Bool, true, false, Some, None, Option, List, [], ◌∷◌, ◌++◌, length, refl, sym, ap, ◌∙◌, subst, inl, inr, arith, set, slice_get, replicate}
use Rattle.diag_known.proofs.Vocabulary.{false≢true, has_number, Ends, in_order, turned, ends_of, pin_wire, pins_of}
use Rattle.diag_known.proofs.Vocabulary.{crosses_of, wires_of, Kept, keeps_cross, keeps_pair, Support, VerifiedWire}
use Rattle.std.proofs.lemmas.List.{length-set, length_push, get_or-set_same, get_or-set_other, get_or-replicate, get_or_past, length-replicate}
use native.Mathlib.Decide.{dec_lt, ℕ_discrete}
use Rattle.base_bits.proofs.NumbersLemmas.{size_of-taken}
use Rattle.diag_known.specs.Vocabulary.{KnownWires, IsAt, HasWire, IsFoot, Stands, IsKeptCrossOf, InSet, AreApart, IsGood, IsBetween, foot_at, IsFootTo, IsGround, IsSettled, Founds}
use Rattle.machine_meaning.specs.Standing.{StandsBy, pin_stands, on_two}
use Rattle.diag_known.proofs.Places.{at_later, has_later, get_pushed, get_last, some_same, at_within}
use Rattle.diag_known.proofs.Later.{learnt}

-- nothing was found
pub founds_none : {n : KnownWires} {left : List Bool} {feet : List (Option Support)} → Founds n n left left feet feet
founds_none = record { stays = λ i w at. at; settled = λ w u s. s; from = λ w h. inl h; whole = λ w h. inr h; less = λ w h. h; grows = omega arith; count = refl }

-- one after the other
pub founds_then : {n m o : KnownWires} {left rest less : List Bool} {feet more most : List (Option Support)} → Founds n m left rest feet more → Founds m o rest less more most → Founds n o left less feet most
founds_then {n} {m} {o} {left} {rest} {less} f g = record {
  stays = λ i w at. g.stays i w (f.stays i w at);
  settled = λ w u s. g.settled w u (f.settled w u s);
  from = λ w h. from w (g.from w h);
  whole = λ w h. whole w (f.whole w h);
  less = λ w h. f.less w (g.less w h);
  grows = let a = f.grows in let b = g.grows in omega (arith, a, b);
  count = let a = f.count in let b = g.count in omega (arith, a, b);
}
  where
    from : (w : ℕ) → HasWire m.steps w ⊎ InSet rest w → HasWire n.steps w ⊎ InSet left w
    from w (inl h) = f.from w h
    from w (inr h) = inr (f.less w h)

    still : (w : ℕ) → HasWire m.steps w → HasWire o.steps w
    still w h = record { place = h.place; at = g.stays h.place w h.at }

    whole : (w : ℕ) → HasWire m.steps w ⊎ InSet rest w → HasWire o.steps w ⊎ InSet less w
    whole w (inl h) = inl (still w h)
    whole w (inr h) = g.whole w h

has_set_other : (left : List Bool) (w v : ℕ) → v ≢ w → has_number (set left w false) v ≡ has_number left v
has_set_other left w v n = get_or-set_other left w v false false n

in_after : (left : List Bool) (w v : ℕ) → w < length left → InSet (set left w false) v → (v ≢ w) × InSet left v
in_after left w v within h = by (ℕ_discrete v w)
  where
    by : Dec (v ≡ w) → (v ≢ w) × InSet left v
    by (yes e) = absurd (false≢true (sym (get_or-set_same left w false false within) ∙ ap (has_number (set left w false)) (sym e) ∙ h))
    by (no n) = (n, sym (has_set_other left w v n) ∙ h)

-- A wire that is left stands now.
module _ {k : Kept} {n m : KnownWires} {left : List Bool} {feet : List (Option Support)} (g : IsGround k n left feet) (s : VerifiedWire) (was : InSet left s.wire.0) (within : s.wire.0 < length left)
    (stands : Stands k n.steps (length n.steps) s.wire.0 s.stand) (shape : m.shape ≡ n.shape) (steps : m.steps ≡ n.steps ++ s ∷ []) where
  abbrev rest : List Bool
  rest = set left s.wire.0 false

  good : IsGood k n.steps s.wire.0
  good = record {
    kept = g.kept s.wire.0 was;
    of_set = g.of_set s.wire.0 was;
    apart = λ u has. g.pairs s.wire.0 u was (inr has) (λ e. g.fresh s.wire.0 was (subst (HasWire n.steps) e has));
  }

  has_still : (w : ℕ) → HasWire n.steps w → HasWire m.steps w
  has_still w h = subst (λ ss. HasWire ss w) (sym steps) (has_later (s ∷ []) h)

  has_this : HasWire m.steps s.wire.0
  has_this = subst (λ ss. HasWire ss s.wire.0) (sym steps) (record { place = length n.steps; at = record { step = s; here = get_last n.steps s; wire = refl } })

  has_from : (w : ℕ) → HasWire m.steps w → HasWire n.steps w ⊎ (s.wire.0 ≡ w)
  has_from w h = by (get_pushed n.steps s h.place h.at.step (subst (λ ss. slice_get ss h.place ≡ Some h.at.step) steps h.at.here))
    where
      by : (slice_get n.steps h.place ≡ Some h.at.step) ⊎ ((h.place ≡ length n.steps) × (s ≡ h.at.step)) → HasWire n.steps w ⊎ (s.wire.0 ≡ w)
      by (inl here) = inl (record { place = h.place; at = record { step = h.at.step; here = here; wire = h.at.wire } })
      by (inr last) = inr (ap (λ (t : VerifiedWire). t.wire.0) last.1 ∙ h.at.wire)

  pub ground_then : IsGround k m rest feet
  ground_then = record {
    known = learnt g.known good stands shape steps;
    len = length-set left s.wire.0 false ∙ g.len;
    room = g.room;
    fresh = λ w h has. fresh w (in_after left s.wire.0 w within h) (has_from w has);
    kept = λ w h. g.kept w (in_after left s.wire.0 w within h).1;
    of_set = λ w h. g.of_set w (in_after left s.wire.0 w within h).1;
    pairs = λ w u h other differ. g.pairs w u (in_after left s.wire.0 w within h).1 (pairs u other) differ;
    found = λ w a e. let f = g.found w a e in record { between = f.between; kept = f.kept; stands = has_still a.wire.0 f.stands };
  }
    where
      fresh : (w : ℕ) → (w ≢ s.wire.0) × InSet left w → HasWire n.steps w ⊎ (s.wire.0 ≡ w) → ⊥
      fresh w h (inl has) = g.fresh w h.1 has
      fresh w h (inr e) = h.0 (sym e)

      this : (u : ℕ) → HasWire n.steps u ⊎ (s.wire.0 ≡ u) → InSet left u ⊎ HasWire n.steps u
      this u (inl has) = inr has
      this u (inr e) = inl (subst (InSet left) e was)

      pairs : (u : ℕ) → InSet rest u ⊎ HasWire m.steps u → InSet left u ⊎ HasWire n.steps u
      pairs u (inl h) = inl (in_after left s.wire.0 u within h).1
      pairs u (inr has) = this u (has_from u has)

  pub founds_one : Founds n m left rest feet feet
  founds_one = record {
    stays = λ i w at. subst (λ ss. IsAt ss i w) (sym steps) (at_later (s ∷ []) at);
    settled = λ w u e. settled w u e;
    from = λ w h. from w (has_from w h);
    whole = λ w h. whole w h (ℕ_discrete w s.wire.0);
    less = λ w h. (in_after left s.wire.0 w within h).1;
    grows = let longer = ap length steps ∙ length_push n.steps s in omega (arith, longer);
    count = let taken = size_of-taken left s.wire.0 within was in let longer = ap length steps ∙ length_push n.steps s in omega (arith, taken, longer);
  }
    where
      settled : (w u : ℕ) → IsSettled left feet w u → IsSettled rest feet w u
      settled w u (inr f) = inr f
      settled w u (inl out) = inl (by (ℕ_discrete w s.wire.0))
        where
          by : Dec (w ≡ s.wire.0) → has_number rest w ≡ false
          by (yes e) = ap (has_number rest) e ∙ get_or-set_same left s.wire.0 false false within
          by (no d) = has_set_other left s.wire.0 w d ∙ out

      from : (w : ℕ) → HasWire n.steps w ⊎ (s.wire.0 ≡ w) → HasWire n.steps w ⊎ InSet left w
      from w (inl h) = inl h
      from w (inr e) = inr (subst (InSet left) e was)

      whole : (w : ℕ) → InSet left w → Dec (w ≡ s.wire.0) → HasWire m.steps w ⊎ InSet rest w
      whole w h (yes e) = inl (subst (HasWire m.steps) (sym e) has_this)
      whole w h (no d) = inr (has_set_other left s.wire.0 w d ∙ h)

  pub taken_now : has_number rest s.wire.0 ≡ false
  taken_now = get_or-set_same left s.wire.0 false false within

-- A first foot of a wire was found.
module _ {k : Kept} {n : KnownWires} {left : List Bool} {feet more : List (Option Support)} (g : IsGround k n left feet) (w : ℕ) (a : Support) (within : w < length feet) (none : foot_at feet w ≡ None)
    (foot : IsFootTo k n.steps w a) (put : more ≡ set feet w (Some a)) where
  foot_now : foot_at more w ≡ Some a
  foot_now = ap (λ fs. foot_at fs w) put ∙ get_or-set_same feet w (Some a) None within

  foot_other : (v : ℕ) → v ≢ w → foot_at more v ≡ foot_at feet v
  foot_other v d = ap (λ fs. foot_at fs v) put ∙ get_or-set_other feet w v (Some a) None d

  pub ground_foot : IsGround k n left more
  ground_foot = record {
    known = g.known;
    len = g.len;
    room = ap length put ∙ length-set feet w (Some a) ∙ g.room;
    fresh = g.fresh;
    kept = g.kept;
    of_set = g.of_set;
    pairs = g.pairs;
    found = λ v b e. by v b e (ℕ_discrete v w);
  }
    where
      by : (v : ℕ) (b : Support) → foot_at more v ≡ Some b → Dec (v ≡ w) → IsFootTo k n.steps v b
      by v b e (yes s) = subst (λ v. IsFootTo k n.steps v b) (sym s) (subst (IsFootTo k n.steps w) (some_same (sym foot_now ∙ ap (foot_at more) (sym s) ∙ e)) foot)
      by v b e (no d) = g.found v b (sym (foot_other v d) ∙ e)

  pub founds_foot : Founds n n left left feet more
  founds_foot = record { stays = λ i v at. at; settled = settled; from = λ v h. inl h; whole = λ v h. inr h; less = λ v h. h; grows = omega arith; count = refl }
    where
      settled : (v u : ℕ) → IsSettled left feet v u → IsSettled left more v u
      settled v u (inl out) = inl out
      settled v u (inr f) = inr (f.0, foot_other v (λ e. by (sym none ∙ ap (foot_at feet) (sym e) ∙ f.1)) ∙ f.1, f.2)
        where
          by : None ≡ Some f.0 → ⊥
          by e = cc

  pub settled_foot : IsSettled left more w a.wire.0
  settled_foot = inr (a, foot_now, refl)

-- the feet of a wire that is to stand
pub foot_is : {k : Kept} (n : KnownWires) {w : ℕ} {a : Support} → IsFootTo k n.steps w a → IsFoot k n.steps (length n.steps) w a
foot_is n f = record { within = f.between.within; kept = f.kept; at = f.between.at; before = record { place = f.stands.place; early = at_within f.stands.at; at = f.stands.at } }

pub ends_turned : {p : ℕ × ℕ} {a b : ℕ} → Ends p a b → Ends p b a
ends_turned (in_order s t) = turned s t
ends_turned (turned s t) = in_order s t

pub foot_to : {k : Kept} (n : KnownWires) {from w x : ℕ} (a : Support) → a.cross.0 ≡ x → a.wire.0 ≡ from → IsBetween k.shape x w from → keeps_cross k x ≡ true → HasWire n.steps from → IsFootTo k n.steps w a
foot_to {k} n {from} {w} {x} a cross wire b kept has = record {
  between = record {
    within = subst (λ y. y < crosses_of k.shape) (sym cross) b.within;
    at = subst (λ y. Ends (ends_of k.shape y) a.wire.0 w) (sym cross) (subst (λ u. Ends (ends_of k.shape x) u w) (sym wire) (ends_turned b.at));
  };
  kept = ap (keeps_cross k) cross ∙ kept;
  stands = subst (HasWire n.steps) (sym wire) has;
}

pub step_there : (ss : List VerifiedWire) (i : ℕ) → i < length ss → (t : VerifiedWire) × (slice_get ss i ≡ Some t)
step_there [] i h = absurd (let none : ⊥ = omega (arith, h) in none)
step_there (s ∷ ss) zero h = (s, refl)
step_there (s ∷ ss) (suc i) h = step_there ss i (omega (arith, h))

-- what isn't left, isn't left later
pub out_still : {n m : KnownWires} {left rest : List Bool} {feet more : List (Option Support)} → Founds n m left rest feet more → (w : ℕ) → has_number left w ≡ false → has_number rest w ≡ false
out_still {left = left} {rest = rest} f w out = by (has_number rest w) refl
  where
    by : (b : Bool) → has_number rest w ≡ b → has_number rest w ≡ false
    by true e = absurd (false≢true (sym out ∙ f.less w e))
    by false e = e

-- before anything stands
pub ground_none : {k : Kept} {n : KnownWires} (wires : List Bool) (feet : List (Option Support)) (len : ℕ) → AreApart k wires → n.shape ≡ k.shape → n.steps ≡ [] → feet ≡ replicate len None → len ≡ wires_of k.shape → IsGround k n wires feet
ground_none {k} {n} wires feet len apart shape steps none wide = record {
  known = record { shape = shape; of_set = λ w has. absurd (none_has w has); steps = λ i s here. absurd (let no_step : None ≡ Some s = subst (λ ss. slice_get ss i ≡ Some s) steps here in cc) };
  len = apart.len;
  room = ap length none ∙ length-replicate len None ∙ wide;
  fresh = λ w h has. absurd (none_has w has);
  kept = apart.kept;
  of_set = apart.of_set;
  pairs = λ w u h other differ. pairs w u h other differ;
  found = λ w a e. absurd (let no_foot : None ≡ Some a = sym (no_foot_at w) ∙ e in cc);
}
  where
    none_has : (w : ℕ) → HasWire n.steps w → ⊥
    none_has w has = let no_step : None ≡ Some has.at.step = subst (λ ss. slice_get ss has.place ≡ Some has.at.step) steps has.at.here in cc

    pairs : (w u : ℕ) → InSet wires w → InSet wires u ⊎ HasWire n.steps u → u ≢ w → keeps_pair k u w ≡ true
    pairs w u h (inl also) differ = apart.pairs w u h also differ
    pairs w u h (inr has) differ = absurd (none_has u has)

    no_foot_at : (w : ℕ) → foot_at feet w ≡ None
    no_foot_at w = ap (λ fs. foot_at fs w) none ∙ by (dec_lt w len)
      where
        by : Dec (w < len) → foot_at (replicate len None) w ≡ None
        by (yes h) = get_or-replicate len w None None h
        by (no h) = get_or_past (replicate len None) w None (rw length-replicate (omega (arith, h)))

-- all that stands by kept crosspoints was found
module _ (k : Kept) (n : KnownWires) (wires left : List Bool) (feet : List (Option Support))
    (from_foot : (w x a : ℕ) → IsKeptCrossOf k x → Ends (ends_of k.shape x) a w → HasWire n.steps a → IsSettled left feet w a)
    (whole : (w : ℕ) → InSet wires w → HasWire n.steps w ⊎ InSet left w) (pins : (i : ℕ) → i < pins_of k.shape → has_number left (pin_wire k.shape i) ≡ false) where
  by_pin : (i : ℕ) → i < pins_of k.shape → HasWire n.steps (pin_wire k.shape i) ⊎ InSet left (pin_wire k.shape i) → HasWire n.steps (pin_wire k.shape i)
  by_pin i lt (inl has) = has
  by_pin i lt (inr l) = absurd (false≢true (sym (pins i lt) ∙ l))

  by_feet : (w a b : ℕ) → a ≢ b → InSet left w → IsSettled left feet w a → IsSettled left feet w b → ⊥
  by_feet w a b differ l (inl out) t = false≢true (sym out ∙ l)
  by_feet w a b differ l (inr f) (inl out) = false≢true (sym out ∙ l)
  by_feet w a b differ l (inr f) (inr g) = differ (sym f.2 ∙ ap (λ (c : Support). c.wire.0) (some_same (sym f.1 ∙ g.1)) ∙ g.2)

  by_two : (w a b : ℕ) → a ≢ b → IsSettled left feet w a → IsSettled left feet w b → HasWire n.steps w ⊎ InSet left w → HasWire n.steps w
  by_two w a b differ s t (inl has) = has
  by_two w a b differ s t (inr l) = absurd (by_feet w a b differ l s t)

  pub stands_all : (w : ℕ) → StandsBy k.shape (InSet wires) (IsKeptCrossOf k) w → HasWire n.steps w
  stands_all w (pin_stands i lt is) = by_pin i lt (whole (pin_wire k.shape i) is)
  stands_all w (on_two v x y a b is cx cy ex ey differ sa sb) = by_two w a b differ (from_foot w x a cx ex (stands_all a sa)) (from_foot w y b cy ey (stands_all b sb)) (whole w is)
