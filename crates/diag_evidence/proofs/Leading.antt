-- Lists of walks, and a walk that is cut.
use Rattle.std.proofs.Common.{◌≡◌, ◌≢◌, ◌⊎◌, inl, inr, ℕ, zero, suc, ◌<◌, Bool, true, false, not, Some, None, Option, List, [], ◌∷◌, ◌++◌, length, get_or, refl, sym, ap, ◌∙◌, subst, arith, ◌==◌, flat_map, if◌then◌else◌}
use Rattle.diag_evidence.proofs.Vocabulary.{AllByRecursion, IsDistinct, false≢true, or_cases, or_left, or_right, nat_tests, list_any-append}
use Rattle.diag_evidence.proofs.Vocabulary.{Shape, Configuration, is_closed, with_open, among, LeadsTo, ends, goes, is_closed-open, Lead}
use native.Mathlib.Decide.{ℕ_discrete, dec_lt}

pub first_or_more : (y x : ℕ) (xs : List ℕ) → among (y ∷ xs) x ≡ true → (y ≡ x) ⊎ (among xs x ≡ true)
first_or_more y x xs is = by (ℕ_discrete y x)
  where
    by : Dec (y ≡ x) → (y ≡ x) ⊎ (among xs x ≡ true)
    by (yes e) = inl e
    by (no n) = inr (grind (arith, nat_tests))

-- what holds of each number of a list
pub of_each : (P : ℕ → Type 0) (xs : List ℕ) → AllByRecursion P xs → (w : ℕ) → among xs w ≡ true → P w
of_each P [] all w is = absurd (false≢true is)
of_each P (x ∷ xs) all w is = by (first_or_more x w xs is) (of_each P xs all.1 w)
  where
    by : (x ≡ w) ⊎ (among xs w ≡ true) → (among xs w ≡ true → P w) → P w
    by (inl e) more = subst P e all.0
    by (inr h) more = more h

pub not_true : (b : Bool) → not b ≡ true → b ≡ false
not_true true e = absurd (false≢true e)
not_true false e = refl

pub none_by : (o : Option Bool) → ((v : Bool) → o ≡ Some v → ⊥) → o ≡ None
none_by None n = refl
none_by (Some v) n = absurd (n v refl)

-- what was opened isn't closed
pub open_again : (g : Configuration) (x y : ℕ) → x ≡ y → is_closed (with_open g x) y ≡ true → ⊥
open_again g x y e on = false≢true (sym (is_closed-open g x y ∙ by) ∙ on)
  where
    by : (if y == x then false else is_closed g y) ≡ false
    by = let t : (y == x) ≡ true = grind (arith, nat_tests) in rw t refl

-- in a list without doubles no number of the front stands behind it
pub distinct_apart : (xs ys : List ℕ) → IsDistinct (λ a b. a == b) (xs ++ ys) → (w : ℕ) → among xs w ≡ true → among ys w ≡ true → ⊥
unfolding IsDistinct
distinct_apart [] ys d w p q = false≢true p
distinct_apart (x ∷ xs) ys d w p q = by (first_or_more x w xs p) (λ h. distinct_apart xs ys d.1 w h q)
  where
    behind : among (xs ++ ys) w ≡ true
    behind = list_any-append (λ z. z == w) xs ys ∙ or_right (among xs w) (among ys w) q

    by : (x ≡ w) ⊎ (among xs w ≡ true) → (among xs w ≡ true → ⊥) → ⊥
    by (inl e) more = let n : (x == w) ≡ false = of_each (λ y. (x == y) ≡ false) (xs ++ ys) d.0 w behind in grind (arith, nat_tests)
    by (inr h) more = more h

distinct_behind : (xs ys : List ℕ) → IsDistinct (λ a b. a == b) (xs ++ ys) → IsDistinct (λ a b. a == b) ys
unfolding IsDistinct
distinct_behind [] ys d = d
distinct_behind (x ∷ xs) ys d = distinct_behind xs ys d.1

all_in_front : (P : ℕ → Type 0) (xs ys : List ℕ) → AllByRecursion P (xs ++ ys) → AllByRecursion P xs
all_in_front P [] ys all = tt
all_in_front P (x ∷ xs) ys all = (all.0, all_in_front P xs ys all.1)

distinct_in_front : (xs ys : List ℕ) → IsDistinct (λ a b. a == b) (xs ++ ys) → IsDistinct (λ a b. a == b) xs
unfolding IsDistinct
distinct_in_front [] ys d = tt
distinct_in_front (x ∷ xs) ys d = (all_in_front _ xs ys d.0, distinct_in_front xs ys d.1)

-- a walk is cut at one of its crosspoints
pub record IsCut (m : Shape) (a e x : ℕ) (xs ws : List ℕ) : Type 0 where
  pub before : List ℕ
  pub after : List ℕ
  pub near_wires : List ℕ
  pub far_wires : List ℕ
  pub near : ℕ
  pub far : ℕ
  pub crosses : xs ≡ before ++ x ∷ after
  pub wires : ws ≡ near_wires ++ far_wires
  pub leads : LeadsTo m a before near_wires near
  pub leads_on : LeadsTo m far after far_wires e

pub cut : {m : Shape} {a e : ℕ} {xs ws : List ℕ} (x : ℕ) → LeadsTo m a xs ws e → among xs x ≡ true → IsCut m a e x xs ws
cut x ends is = absurd (false≢true is)
cut {m} {a} {e} x (goes {b = b} {x = y} {xs = ys} {ws = vs} below at more) is = by (first_or_more y x ys is) (cut x more)
  where
    later : IsCut m b e x ys vs → IsCut m a e x (y ∷ ys) (a ∷ vs)
    later c = record {
      before = y ∷ c.before;
      after = c.after;
      near_wires = a ∷ c.near_wires;
      far_wires = c.far_wires;
      near = c.near;
      far = c.far;
      crosses = ap (λ l. y ∷ l) c.crosses;
      wires = ap (λ l. a ∷ l) c.wires;
      leads = goes below at c.leads;
      leads_on = c.leads_on;
    }

    by : (y ≡ x) ⊎ (among ys x ≡ true) → (among ys x ≡ true → IsCut m b e x ys vs) → IsCut m a e x (y ∷ ys) (a ∷ vs)
    by (inl s) rest = record {
      before = [];
      after = ys;
      near_wires = a ∷ [];
      far_wires = vs;
      near = a;
      far = b;
      crosses = ap (λ z. z ∷ ys) s;
      wires = refl;
      leads = ends;
      leads_on = more;
    }
    by (inr h) rest = later (rest h)

either_less : (a b : ℕ) → a ≢ b → (a < b) ⊎ (b < a)
either_less a b n = by (dec_lt a b)
  where
    by : Dec (a < b) → (a < b) ⊎ (b < a)
    by (yes h) = inl h
    by (no h) = inr (omega (arith, h, n))

-- the walk that a crosspoint or a wire stands in, by a part of each walk
pub record IsIn (part : Lead → List ℕ) (ls : List Lead) (y : ℕ) : Type 0 where
  pub place : ℕ
  pub below : place < length ls
  pub has : (d : Lead) → among (part (get_or ls place d)) y ≡ true

module _ (part : Lead → List ℕ) where
  pub is_in : (ls : List Lead) (y : ℕ) → among (flat_map part ls) y ≡ true → IsIn part ls y
  is_in [] y is = absurd (false≢true is)
  is_in (l ∷ ls) y is = by (or_cases (among (part l) y) (among (flat_map part ls) y) (sym (list_any-append (λ z. z == y) (part l) (flat_map part ls)) ∙ is)) (is_in ls y)
    where
      by : (among (part l) y ≡ true) ⊎ (among (flat_map part ls) y ≡ true) → (among (flat_map part ls) y ≡ true → IsIn part ls y) → IsIn part (l ∷ ls) y
      by (inl h) more = record { place = 0; below = omega arith; has = λ d. h }
      by (inr h) more = let p = more h in let b = p.below in record { place = suc p.place; below = omega (arith, b); has = p.has }

  pub stands_in : (ls : List Lead) (i y : ℕ) (d : Lead) → i < length ls → among (part (get_or ls i d)) y ≡ true → among (flat_map part ls) y ≡ true
  stands_in [] i y d below is = absurd (omega arith)
  stands_in (l ∷ ls) zero y d below is = list_any-append (λ z. z == y) (part l) (flat_map part ls) ∙ or_left (among (part l) y) (among (flat_map part ls) y) is
  stands_in (l ∷ ls) (suc i) y d below is = list_any-append (λ z. z == y) (part l) (flat_map part ls) ∙ or_right (among (part l) y) (among (flat_map part ls) y) (stands_in ls i y d (omega arith) is)

  one_alone : (ls : List Lead) (i j y : ℕ) (d : Lead) → IsDistinct (λ a b. a == b) (flat_map part ls) → i < j → j < length ls → among (part (get_or ls i d)) y ≡ true → among (part (get_or ls j d)) y ≡ true → ⊥
  one_alone [] i j y d once h below p q = omega arith
  one_alone (l ∷ ls) zero zero y d once h below p q = omega arith
  one_alone (l ∷ ls) zero (suc j) y d once h below p q = distinct_apart (part l) (flat_map part ls) once y p (stands_in ls j y d (omega arith) q)
  one_alone (l ∷ ls) (suc i) zero y d once h below p q = omega arith
  one_alone (l ∷ ls) (suc i) (suc j) y d once h below p q = one_alone ls i j y d (distinct_behind (part l) (flat_map part ls) once) (omega arith) (omega arith) p q

  pub own_once : (ls : List Lead) (i : ℕ) (d : Lead) → IsDistinct (λ a b. a == b) (flat_map part ls) → i < length ls → IsDistinct (λ a b. a == b) (part (get_or ls i d))
  own_once [] i d once below = absurd (omega arith)
  own_once (l ∷ ls) zero d once below = distinct_in_front (part l) (flat_map part ls) once
  own_once (l ∷ ls) (suc i) d once below = own_once ls i d (distinct_behind (part l) (flat_map part ls) once) (omega arith)

  -- what stands in two walks stands in one
  pub one_walk : (ls : List Lead) (i j y : ℕ) (d : Lead) → IsDistinct (λ a b. a == b) (flat_map part ls) → i < length ls → j < length ls → among (part (get_or ls i d)) y ≡ true → among (part (get_or ls j d)) y ≡ true → i ≡ j
  one_walk ls i j y d once hi hj p q = by_place (ℕ_discrete i j)
    where
      by : (i < j) ⊎ (j < i) → ⊥
      by (inl h) = one_alone ls i j y d once h hj p q
      by (inr h) = one_alone ls j i y d once h hi q p

      by_place : Dec (i ≡ j) → i ≡ j
      by_place (yes e) = e
      by_place (no n) = absurd (by (either_less i j n))
