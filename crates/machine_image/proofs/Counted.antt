-- How many closed crosspoints there are, and how many tables that are on.
use Rattle.std.proofs.Common.{◌≡◌, ℕ, zero, suc, ◌+◌, ◌<◌, ◌≤◌, List, [], ◌∷◌, ◌++◌, Bool, true, false, not, ◌&&◌, nat_eq, Option, None, Some, IsSome, is_some, Contains, length, refl, sym, ap, ◌∙◌, subst, inl, inr, ◌⊎◌, arith, ◌==◌, if◌then◌else◌, le_trans}
use Rattle.machine_image.proofs.Vocabulary.{flat_map, range_with_len, nat_cmp, nat_cmp_total, unsigned_tied, cases_lt, list_any_at}
use Rattle.machine_image.proofs.Vocabulary.{Contains-append_left, Contains-append_right, nat_tests, Shape, is_small, levels_of, tables_of}
use Rattle.machine_image.proofs.Vocabulary.{most_ticks, small_is, Setting, Configuration, setting_of, insert-remove, on_at, tables_on}
use Rattle.std.specs.FinSet as set_
use Rattle.std.specs.FinSet.{len-empty, len-insert, contains-remove, contains-from_list_nat}

unequal : (x y : ℕ) → y < x → (x == y) ≡ false
unequal x y h = grind (arith, nat_tests, h)

equal : (x : ℕ) → (x == x) ≡ true
equal x = grind (arith, nat_tests)

one_less : (s : set_.FinSet nat_cmp) (y : ℕ) → set_.contains s y ≡ true → set_.len s ≡ set_.len (set_.remove s y) + 1
one_less s y is =
    ap set_.len (sym (insert-remove s y is)) ∙ len-insert nat_cmp_total (set_.remove s y) y
    ∙ ap (λ b. if b then set_.len (set_.remove s y) else set_.len (set_.remove s y) + 1)
    (contains-remove nat_cmp_total s y y ∙ ap (λ b. not b && set_.contains s y) (unsigned_tied y y ∙ equal y))

pub at_most_len : (f : ℕ → Bool) (a n : ℕ) (s : set_.FinSet nat_cmp) → ((x : ℕ) → a ≤ x → f x ≡ true → set_.contains s x ≡ true) →
    length (flat_map (λ x. if f x then x ∷ [] else []) (range_with_len a n)) ≤ set_.len s
at_most_len f a zero s h = omega arith
at_most_len f a (suc n) s h = by_first (f a) refl (at_most_len f (a + 1) n s (λ x l e. h x (omega (arith, l)) e)) (at_most_len f (a + 1) n (set_.remove s a) (λ x l e.
    contains-remove nat_cmp_total s a x ∙ ap (λ b. not b && set_.contains s x) (unsigned_tied x a ∙ unequal x a (omega (arith, l))) ∙ h x (omega (arith, l)) e))
  where
    by_first : (b : Bool) → f a ≡ b → length (flat_map (λ x. if f x then x ∷ [] else []) (range_with_len (a + 1) n)) ≤ set_.len s → length (flat_map (λ x. if f x then x ∷ [] else []) (range_with_len (a + 1) n)) ≤ set_.len (set_.remove s a) →
        length ((if b then a ∷ [] else []) ++ flat_map (λ x. if f x then x ∷ [] else []) (range_with_len (a + 1) n)) ≤ set_.len s
    by_first false e same less = same
    by_first true e same less = omega (arith, less, one_less s a (h a (omega arith) e))

-- ---- tables that are on

-- as many as a machine has, and as two bytes say, may be on
pub on_fits : (m : Shape) (n : ℕ) → n ≤ tables_of m → n ≤ 65535 → n ≤ most_ticks m
unfolding most_ticks tables_of levels_of
on_fits m n h few = by_size (is_small m.counts) refl
  where
    by_size : (b : Bool) → is_small m.counts ≡ b → n ≤ (if b then 4096 else 65535)
    by_size true e = le_trans h (small_is m.counts e).0
    by_size false e = few

-- a list of one number for each table that is on is no longer than a set that has them
on_numbers : (f : ℕ → Option Setting) (a n : ℕ) → length (flat_map (λ t. on_at t (f t)) (range_with_len a n)) ≡ length (flat_map (λ t. if is_some (f t) then t ∷ [] else []) (range_with_len a n))
on_numbers f a zero = refl
on_numbers f a (suc n) = by_piece (f a) (on_numbers f (a + 1) n)
  where
    by_piece : (o : Option Setting) → length (flat_map (λ t. on_at t (f t)) (range_with_len (a + 1) n)) ≡ length (flat_map (λ t. if is_some (f t) then t ∷ [] else []) (range_with_len (a + 1) n)) →
        length (on_at a o ++ flat_map (λ t. on_at t (f t)) (range_with_len (a + 1) n)) ≡ length ((if is_some o then a ∷ [] else []) ++ flat_map (λ t. if is_some (f t) then t ∷ [] else []) (range_with_len (a + 1) n))
    by_piece None e = e
    by_piece (Some s) e = ap suc e

set_len : (ts : List ℕ) → set_.len (set_.from_list {R = nat_cmp} ts) ≤ length ts
set_len [] = omega (arith, len-empty nat_cmp)
set_len (t ∷ ts) = by_there (set_.contains (set_.from_list {R = nat_cmp} ts) t) (len-insert nat_cmp_total (set_.from_list ts) t) (set_len ts)
  where
    by_there : (b : Bool) → set_.len (set_.insert (set_.from_list {R = nat_cmp} ts) t) ≡ (if b then set_.len (set_.from_list {R = nat_cmp} ts) else set_.len (set_.from_list {R = nat_cmp} ts) + 1) → set_.len (set_.from_list {R = nat_cmp} ts) ≤ length ts →
        set_.len (set_.insert (set_.from_list {R = nat_cmp} ts) t) ≤ length (t ∷ ts)
    by_there true e h = omega (arith, e, h)
    by_there false e h = omega (arith, e, h)

in_set : (ts : List ℕ) (t : ℕ) → Contains ts t → set_.contains (set_.from_list {R = nat_cmp} ts) t ≡ true
in_set ts t c = contains-from_list_nat ts t ∙ list_any_at (λ y. nat_eq y t) ts c.0 t c.1 (ap (λ y. nat_eq y t) c.2 ∙ equal t)

-- the numbers of the tables that are on
abbrev pub on_list : Configuration → List ℕ
on_list g = flat_map (λ t. if is_some (setting_of g t) then t ∷ [] else []) (range_with_len 0 (tables_of g.shape))

pub on_list_len : (g : Configuration) → length (on_list g) ≡ length (tables_on g)
on_list_len g = sym (on_numbers (λ t. setting_of g t) 0 (tables_of g.shape))

listed : (f : ℕ → Bool) (a n t : ℕ) → a ≤ t → t < a + n → f t ≡ true → Contains (flat_map (λ x. if f x then x ∷ [] else []) (range_with_len a n)) t
listed f a zero t l u on = absurd (let no : ⊥ = omega (arith, l, u) in no)
listed f a (suc n) t l u on = by_place (cases_lt a t) (λ lt. listed f (a + 1) n t (omega (arith, lt)) (omega (arith, u)) on)
  where
    here : (a ≡ t) → Contains (if f a then a ∷ [] else []) t
    here e = subst (λ b. Contains (if b then a ∷ [] else []) t) (sym (ap f e ∙ on)) (0, omega arith, e)

    by_place : (a < t) ⊎ (t ≤ a) → (a < t → Contains (flat_map (λ x. if f x then x ∷ [] else []) (range_with_len (a + 1) n)) t) → Contains (flat_map (λ x. if f x then x ∷ [] else []) (range_with_len a (suc n))) t
    by_place (inl lt) more = Contains-append_right (if f a then a ∷ [] else []) (flat_map (λ x. if f x then x ∷ [] else []) (range_with_len (a + 1) n)) t (more lt)
    by_place (inr ge) more = Contains-append_left (if f a then a ∷ [] else []) (flat_map (λ x. if f x then x ∷ [] else []) (range_with_len (a + 1) n)) t (here (let e : a ≡ t = omega (arith, l, ge) in e))

pub on_listed : (g : Configuration) (t : ℕ) → t < tables_of g.shape → IsSome (setting_of g t) → Contains (on_list g) t
on_listed g t h on = listed (λ x. is_some (setting_of g x)) 0 (tables_of g.shape) t (omega arith) (omega (arith, h)) (is_on (setting_of g t) on)
  where
    is_on : (o : Option Setting) → IsSome o → is_some o ≡ true
    is_on (Some s) e = refl
    is_on None e = e

-- each table that is on is of a list: there are no more of them than the list has
pub on_few : (g : Configuration) (ts : List ℕ) → ((t : ℕ) → IsSome (setting_of g t) → Contains ts t) → length (tables_on g) ≤ length ts
on_few g ts h =
    let n = on_numbers (λ t. setting_of g t) 0 (tables_of g.shape) in
    let s = at_most_len (λ t. is_some (setting_of g t)) 0 (tables_of g.shape) (set_.from_list ts) (λ t l e. in_set ts t (h t (some_is _ e))) in
    omega (arith, n, s, set_len ts)
  where
    some_is : (o : Option Setting) → is_some o ≡ true → IsSome o
    some_is None e = absurd cc
    some_is (Some s) e = refl
