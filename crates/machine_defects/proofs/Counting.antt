-- How many numbers pass a test.
use Rattle.std.proofs.Common.{◌≡◌, ◌≢◌, ℕ, zero, suc, ◌+◌, ◌<◌, ◌≤◌, Bool, true, false, if◌then◌else◌, refl, ap, ◌∙◌, arith}
use native.Mathlib.Decide.{ℕ_discrete}
use Rattle.machine_defects.specs.Lists.{how_many}

abbrev pub one_if : Bool → ℕ
one_if b = if b then 1 else 0

at_most_one : (b : Bool) → one_if b ≤ 1
at_most_one true = omega arith
at_most_one false = omega arith

pub how_many_at_most : (f : ℕ → Bool) (n : ℕ) → how_many f n ≤ n
how_many_at_most f zero = omega arith
how_many_at_most f (suc n) = let h = how_many_at_most f n in let o = at_most_one (f n) in omega (arith, h, o)

pub count_at_most : (f : ℕ → Bool) (count n : ℕ) → count ≡ how_many f n → count ≤ n
count_at_most f count n e = let h = how_many_at_most f n in omega (arith, h, e)

pub how_many_more : (f : ℕ → Bool) (n : ℕ) → how_many f (n + 1) ≡ how_many f n + one_if (f n)
how_many_more f n = let e : n + 1 ≡ suc n = omega arith in ap (how_many f) e

pub how_many_all : (f : ℕ → Bool) (n : ℕ) → ((k : ℕ) → k < n → f k ≡ true) → how_many f n ≡ n
how_many_all f zero all = refl
how_many_all f (suc n) all =
    let h = how_many_all f n (λ k lt. all k (omega (arith, lt))) in
    let o : one_if (f n) ≡ 1 = ap one_if (all n (omega arith)) in
    omega (arith, h, o)

pub how_many_none : (f : ℕ → Bool) (n : ℕ) → ((k : ℕ) → k < n → f k ≡ false) → how_many f n ≡ 0
how_many_none f zero none = refl
how_many_none f (suc n) none =
    let h = how_many_none f n (λ k lt. none k (omega (arith, lt))) in
    let o : one_if (f n) ≡ 0 = ap one_if (none n (omega arith)) in
    omega (arith, h, o)

pub how_many_same : (f g : ℕ → Bool) (n : ℕ) → ((k : ℕ) → k < n → f k ≡ g k) → how_many f n ≡ how_many g n
how_many_same f g zero same = refl
how_many_same f g (suc n) same =
    let h = how_many_same f g n (λ k lt. same k (omega (arith, lt))) in
    let o : one_if (f n) ≡ one_if (g n) = ap one_if (same n (omega arith)) in
    omega (arith, h, o)

-- the one test holds of one number more than the other
pub how_many_less : (f g : ℕ → Bool) (n t : ℕ) → t < n → f t ≡ true → g t ≡ false → ((k : ℕ) → k < n → k ≢ t → f k ≡ g k) → how_many g n + 1 ≡ how_many f n
how_many_less f g zero t lt is not_ same = absurd (let no : ⊥ = omega (arith, lt) in no)
how_many_less f g (suc n) t lt is not_ same = by_place (ℕ_discrete n t) (λ d. how_many_less f g n t d is not_ (λ k lk. same k (omega (arith, lk))))
  where
    by_place : Dec (n ≡ t) → (t < n → how_many g n + 1 ≡ how_many f n) → how_many g (suc n) + 1 ≡ how_many f (suc n)
    by_place (yes e) more =
        let h = how_many_same f g n (λ k lk. same k (omega (arith, lk)) (λ u. let no : ⊥ = omega (arith, u, e, lk) in no)) in
        let o : one_if (f n) ≡ 1 = ap one_if (ap f e ∙ is) in
        let p : one_if (g n) ≡ 0 = ap one_if (ap g e ∙ not_) in
        omega (arith, h, o, p)
    by_place (no ne) more =
        let h = more (omega (arith, lt, ne)) in
        let o : one_if (f n) ≡ one_if (g n) = ap one_if (same n (omega arith) ne) in
        omega (arith, h, o)

-- what holds of one number holds of some
pub how_many_some : (f : ℕ → Bool) (n t : ℕ) → t < n → f t ≡ true → 0 < how_many f n
how_many_some f zero t lt is = absurd (let no : ⊥ = omega (arith, lt) in no)
how_many_some f (suc n) t lt is = by_place (ℕ_discrete n t) (λ d. how_many_some f n t d is)
  where
    by_place : Dec (n ≡ t) → (t < n → 0 < how_many f n) → 0 < how_many f (suc n)
    by_place (yes e) more = let o : one_if (f n) ≡ 1 = ap one_if (ap f e ∙ is) in omega (arith, o)
    by_place (no ne) more = let h = more (omega (arith, lt, ne)) in omega (arith, h)

-- where none passes, each fails
pub none_passes : (f : ℕ → Bool) (n t : ℕ) → t < n → how_many f n ≡ 0 → f t ≡ false
none_passes f n t lt none = by_test (f t) refl
  where
    by_test : (b : Bool) → f t ≡ b → b ≡ false
    by_test false e = refl
    by_test true e = absurd (let h = how_many_some f n t lt e in let no : ⊥ = omega (arith, h, none) in no)
