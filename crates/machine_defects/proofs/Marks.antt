-- Marks and the set of the numbers that have one.
use Rattle.std.proofs.Common.{◌≡◌, ℕ, zero, suc, ◌<◌, ◌≤◌, Bool, true, false, ◌&&◌, ◌||◌, if◌then◌else◌, List, [], ◌∷◌, length, set, replicate, refl, sym, ap, ◌∙◌, arith, ◌==◌}
use Rattle.machine_defects.proofs.Vocabulary.{list_any, nat_cmp, nat_cmp_total, list_any-append, nat_tests, or-false, and_parts, has_number}
use Rattle.machine_defects.proofs.Vocabulary.{contains_more, marked, those, all_below}
use Rattle.std.specs.FinSet as sets
use Rattle.std.specs.FinSet.{contains-from_list_nat, contains-empty, same_set, nat_cmp-IsAntisymmetric}
use Rattle.std.proofs.lemmas.List.{get_or-set_same, get_or-set_other, get_or_past, get_or-replicate, length-replicate}
use native.Mathlib.Decide.{ℕ_discrete, dec_lt}

-- ---- what a list of numbers contains

last_any : (b : Bool) (n q : ℕ) → list_any (λ y. y == q) (if b then n ∷ [] else []) ≡ (if n == q then b else false)
last_any true n q = or-false (n == q) ∙ same (n == q)
  where
    same : (c : Bool) → c ≡ (if c then true else false)
    same true = refl
    same false = refl
last_any false n q = same (n == q)
  where
    same : (c : Bool) → false ≡ (if c then false else false)
    same true = refl
    same false = refl

any_step : (f : ℕ → Bool) (n q : ℕ) → list_any (λ y. y == q) (those f (suc n)) ≡ (list_any (λ y. y == q) (those f n) || (if n == q then f n else false))
any_step f n q = list_any-append (λ y. y == q) (those f n) (if f n then n ∷ [] else []) ∙ ap (λ b. list_any (λ y. y == q) (those f n) || b) (last_any (f n) n q)

pub any_beyond : (f : ℕ → Bool) (n q : ℕ) → n ≤ q → list_any (λ y. y == q) (those f n) ≡ false
any_beyond f zero q le = refl
any_beyond f (suc n) q le =
    let apart : (n == q) ≡ false = grind (arith, nat_tests, le) in
    any_step f n q ∙ (λ i. any_beyond f n q (let d : n ≤ q = omega (arith, le) in d) i || (if apart i then f n else false))

pub any_those : (f : ℕ → Bool) (n q : ℕ) → q < n → list_any (λ y. y == q) (those f n) ≡ f q
any_those f zero q lt = absurd (let no : ⊥ = omega (arith, lt) in no)
any_those f (suc n) q lt = by_place (ℕ_discrete n q) (any_those f n q)
  where
    by_place : Dec (n ≡ q) → (q < n → list_any (λ y. y == q) (those f n) ≡ f q) → list_any (λ y. y == q) (those f (suc n)) ≡ f q
    by_place (yes e) more =
        let one : (n == q) ≡ true = grind (arith, nat_tests, e) in
        any_step f n q ∙ (λ i. any_beyond f n q (let d : n ≤ q = omega (arith, e) in d) i || (if one i then f n else false)) ∙ ap f e
    by_place (no ne) more =
        let apart : (n == q) ≡ false = grind (arith, nat_tests, ne) in
        any_step f n q ∙ (λ i. more (let d : q < n = omega (arith, lt, ne) in d) i || (if apart i then f n else false)) ∙ or-false (f q)

-- ---- marks

pub unmarked_beyond : (marks : List Bool) (q : ℕ) → length marks ≤ q → has_number marks q ≡ false
unmarked_beyond marks q le = get_or_past marks q false le

pub has_below : (marks : List Bool) (q : ℕ) → has_number marks q ≡ true → q < length marks
has_below marks q is = by_place (dec_lt q (length marks))
  where
    by_place : Dec (q < length marks) → q < length marks
    by_place (yes lt) = lt
    by_place (no ge) = absurd (let e : false ≡ true = sym (unmarked_beyond marks q (let d : length marks ≤ q = omega (arith, ge) in d)) ∙ is in cc)

pub in_marked : (marks : List Bool) (q : ℕ) → sets.contains (marked marks) q ≡ has_number marks q
in_marked marks q = contains-from_list_nat (those (has_number marks) (length marks)) q ∙ by_place (dec_lt q (length marks))
  where
    by_place : Dec (q < length marks) → list_any (λ y. y == q) (those (has_number marks) (length marks)) ≡ has_number marks q
    by_place (yes lt) = any_those (has_number marks) (length marks) q lt
    by_place (no ge) = let le : length marks ≤ q = omega (arith, ge) in any_beyond (has_number marks) (length marks) q le ∙ sym (unmarked_beyond marks q le)

pub has_set : (marks : List Bool) (i q : ℕ) (b : Bool) → i < length marks → has_number (set marks i b) q ≡ (if q == i then b else has_number marks q)
has_set marks i q b lt = by_place (ℕ_discrete q i)
  where
    by_place : Dec (q ≡ i) → has_number (set marks i b) q ≡ (if q == i then b else has_number marks q)
    by_place (yes e) =
        let one : (q == i) ≡ true = grind (arith, nat_tests, e) in
        ap (has_number (set marks i b)) e ∙ get_or-set_same marks i b false lt ∙ sym (ap (λ c. if c then b else has_number marks q) one)
    by_place (no ne) =
        let apart : (q == i) ≡ false = grind (arith, nat_tests, ne) in
        get_or-set_other marks i q b false ne ∙ sym (ap (λ c. if c then b else has_number marks q) apart)

pub same_members : (s t : sets.FinSet nat_cmp) → ((q : ℕ) → sets.contains s q ≡ sets.contains t q) → s ≡ t
same_members s t h = same_set nat_cmp_total nat_cmp-IsAntisymmetric s t h

pub marked_more : (marks : List Bool) (i : ℕ) → i < length marks → marked (set marks i true) ≡ sets.insert (marked marks) i
marked_more marks i lt = same_members _ _ (λ q.
    in_marked (set marks i true) q ∙ has_set marks i q true lt ∙ ap (λ b. if q == i then true else b) (sym (in_marked marks q)) ∙ sym (contains_more (marked marks) i q))

pub unmarked : (n q : ℕ) → has_number (replicate n false) q ≡ false
unmarked n q = by_place (dec_lt q n)
  where
    by_place : Dec (q < n) → has_number (replicate n false) q ≡ false
    by_place (yes lt) = get_or-replicate n q false false lt
    by_place (no ge) = unmarked_beyond (replicate n false) q (let e = length-replicate {A = Bool} n false in omega (arith, ge, e))

pub marked_none : (n : ℕ) → marked (replicate n false) ≡ sets.empty
marked_none n = same_members _ _ (λ q. in_marked (replicate n false) q ∙ unmarked n q ∙ sym (contains-empty nat_cmp q))

-- to put in what is there changes nothing
pub put_again : (s : sets.FinSet nat_cmp) (i : ℕ) → sets.contains s i ≡ true → sets.insert s i ≡ s
put_again s i is = same_members _ _ (λ q. contains_more s i q ∙ by_place q (ℕ_discrete q i))
  where
    by_place : (q : ℕ) → Dec (q ≡ i) → (if q == i then true else sets.contains s q) ≡ sets.contains s q
    by_place q (yes e) = let one : (q == i) ≡ true = grind (arith, nat_tests, e) in ap (λ c. if c then true else sets.contains s q) one ∙ sym is ∙ ap (sets.contains s) (sym e)
    by_place q (no ne) = let apart : (q == i) ≡ false = grind (arith, nat_tests, ne) in ap (λ c. if c then true else sets.contains s q) apart

-- ---- a test of all numbers below one

pub all_each : (f : ℕ → Bool) (n k : ℕ) → all_below n f ≡ true → k < n → f k ≡ true
all_each f zero k e lt = absurd (let no : ⊥ = omega (arith, lt) in no)
all_each f (suc n) k e lt = by_place (ℕ_discrete k n) (all_each f n k (and_parts (all_below n f) (f n) e).0)
  where
    by_place : Dec (k ≡ n) → (k < n → f k ≡ true) → f k ≡ true
    by_place (yes g) more = ap f g ∙ (and_parts (all_below n f) (f n) e).1
    by_place (no ne) more = more (omega (arith, lt, ne))

pub each_all : (f : ℕ → Bool) (n : ℕ) → ((k : ℕ) → k < n → f k ≡ true) → all_below n f ≡ true
each_all f zero h = refl
each_all f (suc n) h = (λ i. each_all f n (λ k lt. h k (omega (arith, lt))) i && h n (omega arith) i)

pub all_same : (f g : ℕ → Bool) (n : ℕ) → ((k : ℕ) → k < n → f k ≡ g k) → all_below n f ≡ all_below n g
all_same f g zero h = refl
all_same f g (suc n) h = (λ i. all_same f g n (λ k lt. h k (omega (arith, lt))) i && h n (omega arith) i)
