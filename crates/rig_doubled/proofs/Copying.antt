-- A configuration once more.
use Rattle.std.proofs.Common.{◌≡◌, ℕ, zero, suc, ◌+◌, ◌<◌, Bool, true, false, cond, eqb, List, [], ◌∷◌, ◌++◌, length, take, drop, get_or, set, map, refl, ap, ◌∙◌, arith, count_by, if◌then◌else◌, ◌==◌}
use Rattle.std.specs.FinSet as set_
use Rattle.std.specs.{FinSet.same_set, FinSet.nat_cmp-IsAntisymmetric, FinSet.from_list_push, Cmp.nat_cmp_total}
use Rattle.rig_doubled.proofs.Vocabulary.{map-append, Cross, Configuration, is_closed, set_of}
use Rattle.std.proofs.lemmas.{List.Sums.sum_by-cons, Bool.Decides.nat_tests}
use Rattle.machine_config.proofs.Members.{contains_times}

-- the closed crosspoints are a set by their counts
pub closed_is : (g : Configuration) (closed : List Cross) → ((x : ℕ) → count_by (λ c. eqb c.0 x) closed ≡ cond (is_closed g x) 1 0) → set_of closed ≡ g.closed
closed_is g closed counts = same_set nat_cmp_total nat_cmp-IsAntisymmetric _ _ (λ q. contains_times closed q (is_closed g q) (counts q))

-- a crosspoint more
pub set_more : (xs : List Cross) (c : Cross) → set_of (xs ++ c ∷ []) ≡ set_.insert (set_of xs) c.0
set_more xs c = ap set_.from_list (map-append (λ (x : Cross). x.0) xs (c ∷ [])) ∙ from_list_push nat_cmp_total nat_cmp-IsAntisymmetric (map (λ (x : Cross). x.0) xs) c.0

-- a table more
joined : {X : Type 0} (xs ys : List X) (t : ℕ) (d : X) → t < length xs → t < length ys → set (take t xs ++ drop t ys) t (get_or xs t d) ≡ take (suc t) xs ++ drop (suc t) ys
joined [] ys t d h k = absurd (omega arith)
joined (x ∷ xs) [] t d h k = absurd (omega arith)
joined (x ∷ xs) (y ∷ ys) zero d h k = refl
joined (x ∷ xs) (y ∷ ys) (suc t) d h k = ap (λ l. x ∷ l) (joined xs ys t d (omega (arith, h)) (omega (arith, k)))

pub seam : {X : Type 0} (xs ys : List X) (t : ℕ) (d : X) → t < length xs → t < length ys → set (take t xs ++ drop t ys) t (get_or xs t d) ≡ take (t + 1) xs ++ drop (t + 1) ys
seam xs ys t d h k = let e : suc t ≡ t + 1 = omega arith in joined xs ys t d h k ∙ ap (λ n. take n xs ++ drop n ys) e

-- a closed crosspoint is one of the machine's
counted : (q : ℕ) (xs : List Cross) (k : ℕ) (d : Cross) → k < length xs → (get_or xs k d).0 ≡ q → 0 < count_by (λ c. c.0 == q) xs
counted q [] k d l e = absurd (let no : ⊥ = omega (arith, l) in no)
counted q (x ∷ xs) zero d l e =
    let s = sum_by-cons (λ (c : Cross). if c.0 == q then 1 else 0) x xs in
    let t = ap (λ b. (if b then 1 else 0) + count_by (λ (c : Cross). c.0 == q) xs) (let same : (x.0 == q) ≡ true = grind (arith, nat_tests, e) in same) in
    omega (arith, s, t)
counted q (x ∷ xs) (suc k) d l e =
    let s = sum_by-cons (λ (c : Cross). if c.0 == q then 1 else 0) x xs in
    let r = counted q xs k d (omega (arith, l)) e in
    omega (arith, s, r)

pub is_listed : (g : Configuration) (closed : List Cross) → ((x : ℕ) → count_by (λ c. c.0 == x) closed ≡ (if is_closed g x then 1 else 0)) → (k : ℕ) (d : Cross) → k < length closed → is_closed g (get_or closed k d).0 ≡ true
is_listed g closed counts k d l = by (is_closed g (get_or closed k d).0) (counts (get_or closed k d).0)
  where
    by : (b : Bool) → count_by (λ c. c.0 == (get_or closed k d).0) closed ≡ (if b then 1 else 0) → b ≡ true
    by true e = refl
    by false e = absurd (let c = counted (get_or closed k d).0 closed k d l refl in let no : ⊥ = omega (arith, e, c) in no)
