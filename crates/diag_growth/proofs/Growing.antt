-- What growth has found stays found, and grows from one known wire to the next.
use Rattle.std.proofs.Common.{◌≡◌, ◌≢◌, ◌⊎◌, ℕ, zero, suc, ◌+◌, ◌<◌, ◌≤◌, Bool, true, Some, Option, List, [], ◌∷◌, ◌++◌, length, sym, ◌∙◌, subst, inl, inr, arith, slice_get}
use native.Mathlib.Decide.{ℕ_discrete}
use Rattle.diag_growth.proofs.Vocabulary.{has_number, Shape, Faults, Kept, IsMore, IsGrown, IsLooked, StayBarred, Field, VerifiedWire, Ends-swap}
use Rattle.diag_growth.proofs.Vocabulary.{at_one, has_later, lost_later, lost_turned, kept_later}
use Rattle.diag_known.specs.Vocabulary.{IsInField, IsAt, IsBefore, HasWire, AreLost, IsKeptUnlessStuck}

get_old : {A : Type 0} (xs ys : List A) (i : ℕ) (x : A) → i < length xs → slice_get (xs ++ ys) i ≡ Some x → slice_get xs i ≡ Some x
get_old [] ys i x h e = absurd (let no : ⊥ = omega (arith, h) in no)
get_old (z ∷ xs) ys zero x h e = e
get_old (z ∷ xs) ys (suc i) x h e = get_old xs ys i x (omega (arith, h)) e

pub before_old : {ss : List VerifiedWire} {n u : ℕ} (ts : List VerifiedWire) → n ≤ length ss → IsBefore (ss ++ ts) n u → IsBefore ss n u
before_old {ss} {n} ts le b = record { place = b.place; early = b.early; at = record { step = b.at.step; here = get_old ss ts b.place b.at.step (let e = b.early in omega (arith, e, le)) b.at.here; wire = b.at.wire } }

second_later : {told : Option Faults} {k l : Kept} {ss : List VerifiedWire} {old new : List Bool} {w x y : ℕ} (ts : List VerifiedWire) → IsMore k l → StayBarred old new →
    HasWire ss w ⊎ ((has_number old w ≡ true) ⊎ AreLost told k ss w x y) → HasWire (ss ++ ts) w ⊎ ((has_number new w ≡ true) ⊎ AreLost told l (ss ++ ts) w x y)
second_later ts more bars (inl h) = inl (has_later ts h)
second_later {w = w} ts more bars (inr (inl b)) = inr (inl (bars.stays w b))
second_later ts more bars (inr (inr p)) = inr (inr (lost_later ts more p))

-- a crosspoint of the field was so before, and leads both ways
pub in_before : {k l : Kept} {field : Field} {x u w : ℕ} → IsMore k l → IsInField l.shape field x u w → IsInField k.shape field x u w
in_before {field = field} {x = x} {u = u} {w = w} more i = subst (λ (m : Shape). IsInField m field x u w) more.shape i

turned_in : {m : Shape} {field : Field} {x u w : ℕ} → IsInField m field x u w → IsInField m field x w u
turned_in i = record { within = i.within; has = i.has; at = Ends-swap i.at }

pub grown_later : {told : Option Faults} {k l : Kept} {field : Field} {ss : List VerifiedWire} {old new : List Bool} {n : ℕ} (ts : List VerifiedWire) → IsMore k l → n ≤ length ss → StayBarred old new →
    IsGrown told k field ss old n → IsGrown told l field (ss ++ ts) new n
grown_later ts more le bars g = record {
  between = λ x u w i differ b c. kept_later more (g.between x u w (in_before more i) differ (before_old ts le b) (before_old ts le c));
  seconds = λ w x y u v i j differ b c. second_later ts more bars (g.seconds w x y u v (in_before more i) (in_before more j) differ (before_old ts le b) (before_old ts le c));
}

pub looked_later : {told : Option Faults} {k l : Kept} {field : Field} {ss : List VerifiedWire} {old new : List Bool} {n x w : ℕ} (ts : List VerifiedWire) → IsMore k l → n ≤ length ss → StayBarred old new →
    IsLooked told k field ss old n x w → IsLooked told l field (ss ++ ts) new n x w
looked_later ts more le bars p = record {
  between = λ b. kept_later more (p.between (before_old ts le b));
  seconds = λ y v i b. second_later ts more bars (p.seconds y v (in_before more i) (before_old ts le b));
}

-- one known wire further, once each link from it was looked at
pub grown_next : {told : Option Faults} {k : Kept} {field : Field} {ss : List VerifiedWire} {barred : List Bool} {n at : ℕ} → IsAt ss n at → ((x w : ℕ) → IsInField k.shape field x w at → IsLooked told k field ss barred n x w) →
    IsGrown told k field ss barred n → IsGrown told k field ss barred (n + 1)
grown_next {told} {k} {field} {ss} {barred} {n} {at} here all g = record { between = between_next; seconds = seconds_next }
  where
    earlier : (u : ℕ) → IsBefore ss (n + 1) u → IsBefore ss n u ⊎ (u ≡ at)
    earlier u b = by_place (ℕ_discrete b.place n)
      where
        by_place : Dec (b.place ≡ n) → IsBefore ss n u ⊎ (u ≡ at)
        by_place (yes e) = inr (at_one (subst (λ i. IsAt ss i u) e b.at) here)
        by_place (no no_one) = inl (record { place = b.place; early = (let e = b.early in omega (arith, e, no_one)); at = b.at })

    between_next : (x u w : ℕ) → IsInField k.shape field x u w → u ≢ w → IsBefore ss (n + 1) u → IsBefore ss (n + 1) w → IsKeptUnlessStuck told k x
    between_next x u w i differ b c = by_both (earlier u b) (earlier w c)
      where
        by_both : IsBefore ss n u ⊎ (u ≡ at) → IsBefore ss n w ⊎ (w ≡ at) → IsKeptUnlessStuck told k x
        by_both (inl p) (inl q) = g.between x u w i differ p q
        by_both (inl p) (inr e) = (all x u (subst (IsInField k.shape field x u) e i)).between p
        by_both (inr e) (inl q) = (all x w (subst (IsInField k.shape field x w) e (turned_in i))).between q
        by_both (inr e) (inr f) = absurd (differ (e ∙ sym f))

    seconds_next : (w x y u v : ℕ) → IsInField k.shape field x u w → IsInField k.shape field y v w → u ≢ v → IsBefore ss (n + 1) u → IsBefore ss (n + 1) v →
        HasWire ss w ⊎ ((has_number barred w ≡ true) ⊎ AreLost told k ss w x y)
    seconds_next w x y u v i j differ b c = by_both (earlier u b) (earlier v c)
      where
        turned : HasWire ss w ⊎ ((has_number barred w ≡ true) ⊎ AreLost told k ss w y x) → HasWire ss w ⊎ ((has_number barred w ≡ true) ⊎ AreLost told k ss w x y)
        turned (inl h) = inl h
        turned (inr (inl h)) = inr (inl h)
        turned (inr (inr p)) = inr (inr (lost_turned p))

        by_both : IsBefore ss n u ⊎ (u ≡ at) → IsBefore ss n v ⊎ (v ≡ at) → HasWire ss w ⊎ ((has_number barred w ≡ true) ⊎ AreLost told k ss w x y)
        by_both (inl p) (inl q) = g.seconds w x y u v i j differ p q
        by_both (inr e) (inl q) = (all x w (subst (IsInField k.shape field x w) e (turned_in i))).seconds y v j q
        by_both (inl p) (inr e) = turned ((all y w (subst (IsInField k.shape field y w) e (turned_in j))).seconds x u i p)
        by_both (inr e) (inr f) = absurd (differ (e ∙ sym f))
