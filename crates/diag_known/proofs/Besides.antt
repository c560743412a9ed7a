-- Beside one of the two ways to a wire every other known wire is reached.
use Rattle.std.proofs.Common.{◌≡◌, ◌≢◌, ◌⊎◌, ℕ, zero, suc, ◌<◌, Bool, true, false, Some, List, refl, sym, ap, ◌∙◌, subst, inl, inr, arith, slice_get}
use native.Mathlib.Decide.{ℕ_discrete}
use Rattle.diag_known.proofs.Vocabulary.{among, Walk, Kept, Support, SupportedBy, VerifiedWire}
use Rattle.diag_known.specs.Vocabulary.{KnownWires, IsAt, IsFoot, HasWire, Stands, on_feet, IsKnown, IsPin, is_pin, HasFootOn, first, second, IsWay, AreWays, ReachesAll}
use Rattle.diag_known.specs.declared.verified_wire.SupportedBy.TheVariants as stand
use Rattle.diag_known.proofs.Places.{one_place, some_same}
use Rattle.diag_known.proofs.Rising.{not_true}

-- a wire is reached beside one of two ways; beside the second if it is on the first, and the other way round
pub record IsBeside (p q : Walk) (s t : ℕ → Type 0) (u : ℕ) : Type 0 where
  pub either : s u ⊎ t u
  pub on_first : among p.wires u ≡ true → t u
  pub on_second : among q.wires u ≡ true → s u

bool_cases : (b : Bool) → (b ≡ true) ⊎ (b ≡ false)
bool_cases true = inl refl
bool_cases false = inr refl

pub beside_turned : {p q : Walk} {s t : ℕ → Type 0} {u : ℕ} → IsBeside p q s t u → IsBeside q p t s u
beside_turned {s = s} {t = t} {u = u} b = record { either = other b.either; on_first = b.on_second; on_second = b.on_first }
  where
    other : s u ⊎ t u → t u ⊎ s u
    other (inl h) = inr h
    other (inr h) = inl h

pub ways_turned : {k : Kept} {ss : List VerifiedWire} {w : ℕ} {p q : Walk} → AreWays k ss w p q → AreWays k ss w q p
ways_turned a = record { first = a.second; second = a.first; meet = λ u x y. a.meet u y x }

foot_has : {on : ℕ → Type 0} {a b : Support} (P : Type 0) → HasFootOn on (stand.Feet a b) → (on a.wire.0 → P) → (on b.wire.0 → P) → P
foot_has P (first h) f g = f h
foot_has P (second h) f g = g h

module _ {k : Kept} {known : KnownWires} (is : IsKnown k known) {w : ℕ} {p q : Walk} (ways : AreWays k known.steps w p q) {s t : ℕ → Type 0} (ps : ReachesAll known.steps p s) (qs : ReachesAll known.steps q t) where
  abbrev ss : List VerifiedWire
  ss = known.steps

  off_second : (u : ℕ) → u ≢ w → among p.wires u ≡ true → among q.wires u ≡ false
  off_second u n on = not_true (among q.wires u) (λ also. n (ways.meet u on also))

  off_first : (u : ℕ) → u ≢ w → among q.wires u ≡ true → among p.wires u ≡ false
  off_first u n on = not_true (among p.wires u) (λ also. n (ways.meet u also on))

  -- what a wire of a way rests on, where it stands on these feet
  rests : (r : Walk) (i : ℕ) (step : VerifiedWire) → IsWay k ss w r → slice_get ss i ≡ Some step → step.wire.0 ≢ w → among r.wires step.wire.0 ≡ true →
      IsPin step.stand ⊎ HasFootOn (λ v. (among r.wires v ≡ true) × (v ≢ w)) step.stand
  rests r i step way here n on =
      let at = way.wires step.wire.0 on n in
      let same : at.place ≡ i = one_place is at.at (record { step = step; here = here; wire = refl }) in
      let step_is : at.at.step ≡ step = some_same (sym at.at.here ∙ ap (slice_get ss) same ∙ here) in
      subst (λ (z : VerifiedWire). IsPin z.stand ⊎ HasFootOn (λ v. (among r.wires v ≡ true) × (v ≢ w)) z.stand) step_is at.rests

  module _ (i : ℕ) (step : VerifiedWire) (here : slice_get ss i ≡ Some step) (n : step.wire.0 ≢ w) (before : (v : ℕ) → (j : ℕ) → j < i → IsAt ss j v → v ≢ w → IsBeside p q s t v) where
    abbrev u : ℕ
    u = step.wire.0

    feet_before : {a b : Support} → step.stand ≡ stand.Feet a b → Stands k ss i u step.stand → (IsFoot k ss i u a) × (IsFoot k ss i u b) × (a.wire.0 ≢ b.wire.0)
    feet_before {a} {b} e st = two (subst (λ (d : SupportedBy). Stands k ss i u d) e st)
      where
        two : Stands k ss i u (stand.Feet a b) → (IsFoot k ss i u a) × (IsFoot k ss i u b) × (a.wire.0 ≢ b.wire.0)
        two (on_feet g h differ) = (g, h, differ)

    foot_at : (a : Support) → IsFoot k ss i u a → a.wire.0 ≢ w → IsBeside p q s t a.wire.0
    foot_at a f m = before a.wire.0 f.before.place f.before.early f.before.at m

    module _ {a b : Support} (e : step.stand ≡ stand.Feet a b) (fa : IsFoot k ss i u a) (fb : IsFoot k ss i u b) (differ : a.wire.0 ≢ b.wire.0) where
      has_first : {on : ℕ → Type 0} → on a.wire.0 → IsPin step.stand ⊎ HasFootOn on step.stand
      has_first {on} h = inr (subst (HasFootOn on) (sym e) (first h))

      has_second : {on : ℕ → Type 0} → on b.wire.0 → IsPin step.stand ⊎ HasFootOn on step.stand
      has_second {on} h = inr (subst (HasFootOn on) (sym e) (second h))

      first_way : among p.wires u ≡ true → t u
      first_way on = by (rests p i step ways.first here n on)
        where
          off : among q.wires u ≡ false
          off = off_second u n on

          by : IsPin step.stand ⊎ HasFootOn (λ v. (among p.wires v ≡ true) × (v ≢ w)) step.stand → t u
          by (inl pin) = qs.all i step here off (inl pin)
          by (inr h) = foot_has (t u) (subst (HasFootOn (λ v. (among p.wires v ≡ true) × (v ≢ w))) e h)
              (λ x. qs.all i step here off (has_first ((foot_at a fa x.1).on_first x.0)))
              (λ x. qs.all i step here off (has_second ((foot_at b fb x.1).on_first x.0)))

      second_way : among q.wires u ≡ true → s u
      second_way on = by (rests q i step ways.second here n on)
        where
          off : among p.wires u ≡ false
          off = off_first u n on

          by : IsPin step.stand ⊎ HasFootOn (λ v. (among q.wires v ≡ true) × (v ≢ w)) step.stand → s u
          by (inl pin) = ps.all i step here off (inl pin)
          by (inr h) = foot_has (s u) (subst (HasFootOn (λ v. (among q.wires v ≡ true) × (v ≢ w))) e h)
              (λ x. ps.all i step here off (has_first ((foot_at a fa x.1).on_second x.0)))
              (λ x. ps.all i step here off (has_second ((foot_at b fb x.1).on_second x.0)))

      off_both : among p.wires u ≡ false → among q.wires u ≡ false → s u ⊎ t u
      off_both off out = by (ℕ_discrete a.wire.0 w)
        where
          first_foot : s a.wire.0 ⊎ t a.wire.0 → s u ⊎ t u
          first_foot (inl h) = inl (ps.all i step here off (has_first h))
          first_foot (inr h) = inr (qs.all i step here out (has_first h))

          second_foot : s b.wire.0 ⊎ t b.wire.0 → s u ⊎ t u
          second_foot (inl h) = inl (ps.all i step here off (has_second h))
          second_foot (inr h) = inr (qs.all i step here out (has_second h))

          by : Dec (a.wire.0 ≡ w) → s u ⊎ t u
          by (no m) = first_foot (foot_at a fa m).either
          by (yes m) = second_foot (foot_at b fb (λ x. differ (m ∙ sym x))).either

      feet_beside : IsBeside p q s t u
      feet_beside = record { either = by (bool_cases (among p.wires u)) (bool_cases (among q.wires u)); on_first = first_way; on_second = second_way }
        where
          by : (among p.wires u ≡ true) ⊎ (among p.wires u ≡ false) → (among q.wires u ≡ true) ⊎ (among q.wires u ≡ false) → s u ⊎ t u
          by (inl on) o = inr (first_way on)
          by (inr off) (inl on) = inl (second_way on)
          by (inr off) (inr out) = off_both off out

    pin_beside : IsPin step.stand → IsBeside p q s t u
    pin_beside pin = record {
      either = by (bool_cases (among p.wires u));
      on_first = λ on. qs.all i step here (off_second u n on) (inl pin);
      on_second = λ on. ps.all i step here (off_first u n on) (inl pin);
    }
      where
        by : (among p.wires u ≡ true) ⊎ (among p.wires u ≡ false) → s u ⊎ t u
        by (inl on) = inr (qs.all i step here (off_second u n on) (inl pin))
        by (inr off) = inl (ps.all i step here off (inl pin))

    beside_here : IsBeside p q s t u
    beside_here = by_stand step.stand refl
      where
        by_stand : (d : SupportedBy) → step.stand ≡ d → IsBeside p q s t u
        by_stand (stand.Pin m) e = pin_beside (subst IsPin (sym e) is_pin)
        by_stand (stand.Feet a b) e = let f = feet_before e ((is.steps i step here).stands) in feet_beside e f.0 f.1 f.2

  beside_to : (n i : ℕ) → i < n → (v : ℕ) → IsAt ss i v → v ≢ w → IsBeside p q s t v
  beside_to zero i h v at m = absurd (let no : ⊥ = omega (arith, h) in no)
  beside_to (suc n) i h v at m =
      subst (IsBeside p q s t) at.wire (beside_here i at.step at.here (λ e. m (sym at.wire ∙ e)) (λ x j below on o. beside_to n j (omega (arith, h, below)) x on o))

  pub beside : (v : ℕ) → HasWire ss v → v ≢ w → IsBeside p q s t v
  beside v has m = beside_to (suc has.place) has.place (omega arith) v has.at m
