-- Numbers that are seen one after the other.
use Rattle.std.proofs.Common.{◌≡◌, ◌≢◌, ◌⊎◌, ℕ, zero, suc, ◌+◌, ◌<◌, ◌≤◌, Bool, true, false, Some, List, [], ◌∷◌, ◌++◌, length, take, get_or, refl, sym, ap, ◌∙◌, subst, inl, inr, arith, ◌==◌, slice_set, slice_get}
use Rattle.diag_sweep.proofs.Vocabulary.{AllByRecursion, list_any, IsDistinct, false≢true, or_cases, or_parts, or_left, or_right, nat_tests}
use Rattle.diag_sweep.proofs.Vocabulary.{take_more, gets, has_number, among, set_has, set_other, Seen, SeesMore}
use native.Mathlib.Decide.{ℕ_discrete}

pub seen_first : (marks : List Bool) → Seen marks []
unfolding IsDistinct
seen_first marks = record { once = tt; are = λ n on. absurd (false≢true on) }

all_and_one : (P : ℕ → Type 0) (xs : List ℕ) (n : ℕ) → AllByRecursion P xs → P n → AllByRecursion P (xs ++ n ∷ [])
all_and_one P [] n all is = (is, tt)
all_and_one P (x ∷ xs) n all is = (all.0, all_and_one P xs n all.1 is)

distinct_and_one : (xs : List ℕ) (n : ℕ) → IsDistinct (λ a b. a == b) xs → among xs n ≡ false → IsDistinct (λ a b. a == b) (xs ++ n ∷ [])
unfolding IsDistinct
distinct_and_one [] n d none = (tt, tt)
distinct_and_one (x ∷ xs) n d none =
    let two = or_parts (x == n) (among xs n) none in
    (all_and_one (λ y. (x == y) ≡ false) xs n d.0 two.0, distinct_and_one xs n d.1 two.1)

among_and_one : (xs : List ℕ) (n m : ℕ) → among (xs ++ n ∷ []) m ≡ true → (among xs m ≡ true) ⊎ (n ≡ m)
among_and_one [] n m on = inr (only (or_cases (n == m) false on))
  where
    only : ((n == m) ≡ true) ⊎ (false ≡ true) → n ≡ m
    only (inl e) = grind (arith, nat_tests, e)
    only (inr no_) = absurd (false≢true no_)
among_and_one (x ∷ xs) n m on = by (among_and_one xs n m) (or_cases (x == m) (among (xs ++ n ∷ []) m) on)
  where
    behind : (among xs m ≡ true) ⊎ (n ≡ m) → (among (x ∷ xs) m ≡ true) ⊎ (n ≡ m)
    behind (inl h) = inl (or_right (x == m) (among xs m) h)
    behind (inr e) = inr e

    by : (among (xs ++ n ∷ []) m ≡ true → (among xs m ≡ true) ⊎ (n ≡ m)) → ((x == m) ≡ true) ⊎ (among (xs ++ n ∷ []) m ≡ true) → (among (x ∷ xs) m ≡ true) ⊎ (n ≡ m)
    by more (inl e) = inl (or_left (x == m) (among xs m) e)
    by more (inr h) = behind (more h)

-- one number more is seen, for the first time
pub sees_one : (marks : List Bool) (n : ℕ) → n < length marks → has_number marks n ≡ false → SeesMore marks (slice_set marks n true) (n ∷ [])
sees_one marks n within new = record {
  at = λ numbers s. record {
    once = distinct_and_one numbers n s.once (not_among (among numbers n) refl s);
    are = λ m on. by m s (among_and_one numbers n m on) (ℕ_discrete m n);
  };
}
  where
    not_among : {numbers : List ℕ} (t : Bool) → among numbers n ≡ t → Seen marks numbers → among numbers n ≡ false
    not_among true e s = absurd (false≢true (sym new ∙ s.are n e))
    not_among false e s = e

    by : {numbers : List ℕ} (m : ℕ) → Seen marks numbers → (among numbers m ≡ true) ⊎ (n ≡ m) → Dec (m ≡ n) → has_number (slice_set marks n true) m ≡ true
    by m s o (yes e) = subst (λ i. has_number (slice_set marks n true) i ≡ true) (sym e) (set_has marks n within)
    by m s (inl h) (no d) = set_other marks n m d ∙ s.are m h
    by m s (inr e) (no d) = absurd (d (sym e))

pub numbers_more : {old new : List Bool} (ns : List ℕ) (k n : ℕ) → k < length ns → slice_get ns k ≡ Some n → Seen old (take k ns) → SeesMore old new (n ∷ []) → Seen new (take (k + 1) ns)
numbers_more {old} {new} ns k n below here s more = subst (Seen new) (sym (take_more ns k n below ∙ ap (λ u. take k ns ++ u ∷ []) (got (grind (arith, gets, here))))) (more.at _ s)
  where
    got : get_or ns k n ≡ n → get_or ns k n ≡ n
    got e = e
