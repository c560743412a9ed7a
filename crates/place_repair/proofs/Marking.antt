-- Giving marks to numbers.
use Rattle.std.proofs.Common.{◌≡◌, ◌≢◌, ◌⊎◌, ℕ, ◌+◌, ◌<◌, ◌≤◌, Bool, true, false, List, length, get_or, set, replicate, refl, sym, ◌∙◌, subst, inl, inr, arith, ◌==◌, if◌then◌else◌, count_by}
use Rattle.place_repair.proofs.Vocabulary.{cases_eq, cases_lt, false≢true, of_list, listed, HasMark, IsMarked, AreMarks, IsThis, IsOfFirst}
use Rattle.std.proofs.lemmas.List.{get_or-set_same, get_or-set_other, get_or_past, get_or-replicate, length-set, length-replicate}

pub marked_none : (claims : ℕ → Type 0) (marks : List Bool) → ((w : ℕ) → claims w → ⊥) → IsMarked claims marks marks
marked_none claims marks never = record { sized = refl; only = λ w e. inl e; each = λ w c. absurd (never w c); kept = λ w e. e }

pub marked_then : (A B C : ℕ → Type 0) (old mid new : List Bool) → IsMarked A old mid → IsMarked B mid new → ((w : ℕ) → A w → C w) → ((w : ℕ) → B w → C w) → ((w : ℕ) → C w → A w ⊎ B w) → IsMarked C old new
marked_then A B C old mid new p q from_a from_b to = record {
  sized = q.sized ∙ p.sized;
  only = λ w e. by_new w (q.only w e);
  each = λ w c. by_claim w (to w c);
  kept = λ w e. q.kept w (p.kept w e);
}
  where
    by_mid : (w : ℕ) → HasMark old w ⊎ A w → HasMark old w ⊎ C w
    by_mid w (inl e) = inl e
    by_mid w (inr a) = inr (from_a w a)

    by_new : (w : ℕ) → HasMark mid w ⊎ B w → HasMark old w ⊎ C w
    by_new w (inl e) = by_mid w (p.only w e)
    by_new w (inr b) = inr (from_b w b)

    by_claim : (w : ℕ) → A w ⊎ B w → HasMark new w
    by_claim w (inl a) = q.kept w (p.each w a)
    by_claim w (inr b) = q.each w b

pub marked_same : (A B : ℕ → Type 0) (old new : List Bool) → IsMarked A old new → ((w : ℕ) → A w → B w) → ((w : ℕ) → B w → A w) → IsMarked B old new
marked_same A B old new p to from = record { sized = p.sized; only = λ w e. by w (p.only w e); each = λ w b. p.each w (from w b); kept = p.kept }
  where
    by : (w : ℕ) → HasMark old w ⊎ A w → HasMark old w ⊎ B w
    by w (inl e) = inl e
    by w (inr a) = inr (to w a)

pub marked_one : (marks : List Bool) (k : ℕ) → k < length marks → IsMarked (IsThis k) marks (set marks k true)
marked_one marks k within = record {
  sized = length-set marks k true;
  only = λ w e. by w e (cases_eq w k);
  each = λ w c. subst (λ v. HasMark (set marks k true) v) c here;
  kept = λ w e. kept w e (cases_eq w k);
}
  where
    here : HasMark (set marks k true) k
    here = get_or-set_same marks k true false within

    by : (w : ℕ) → HasMark (set marks k true) w → (w ≡ k) ⊎ (w ≢ k) → HasMark marks w ⊎ IsThis k w
    by w e (inl s) = inr (sym s)
    by w e (inr ne) = inl (sym (get_or-set_other marks k w true false ne) ∙ e)

    kept : (w : ℕ) → HasMark marks w → (w ≡ k) ⊎ (w ≢ k) → HasMark (set marks k true) w
    kept w e (inl s) = subst (λ v. HasMark (set marks k true) v) (sym s) here
    kept w e (inr ne) = get_or-set_other marks k w true false ne ∙ e

-- two claims one after the other
pub marked_both : (A B : ℕ → Type 0) (old mid new : List Bool) → IsMarked A old mid → IsMarked B mid new → IsMarked (λ w. A w ⊎ B w) old new
marked_both A B old mid new p q = marked_then A B (λ w. A w ⊎ B w) old mid new p q (λ w a. inl a) (λ w b. inr b) (λ w c. c)

none_marked : (n w : ℕ) → HasMark (replicate n false) w → ⊥
none_marked n w e = by (cases_lt w n)
  where
    by : (w < n) ⊎ (n ≤ w) → ⊥
    by (inl l) = false≢true (sym (get_or-replicate n w false false l) ∙ e)
    by (inr l) = false≢true (sym (get_or_past (replicate n false) w false (rw length-replicate l)) ∙ e)

pub all_marks : (n : ℕ) (claims : ℕ → Type 0) (new : List Bool) → IsMarked claims (replicate n false) new → AreMarks n claims new
all_marks n claims new p = record { sized = p.sized ∙ length-replicate n false; only = λ w e. by w (p.only w e); each = p.each }
  where
    by : (w : ℕ) → HasMark (replicate n false) w ⊎ claims w → claims w
    by w (inl e) = absurd (none_marked n w e)
    by w (inr c) = c

pub more_marks : (n : ℕ) (P A C : ℕ → Type 0) (old new : List Bool) → AreMarks n P old → IsMarked A old new → ((w : ℕ) → P w → C w) → ((w : ℕ) → A w → C w) → ((w : ℕ) → C w → P w ⊎ A w) → AreMarks n C new
more_marks n P A C old new are p from_p from_a to = record { sized = p.sized ∙ are.sized; only = λ w e. by w (p.only w e); each = λ w c. all w (to w c) }
  where
    by : (w : ℕ) → HasMark old w ⊎ A w → C w
    by w (inl e) = from_p w (are.only w e)
    by w (inr a) = from_a w a

    all : (w : ℕ) → P w ⊎ A w → HasMark new w
    all w (inl h) = p.kept w (are.each w h)
    all w (inr a) = p.each w a

-- ---- those of a list, one after the other

pub none_below : (j : ℕ) → j < 0 → ⊥
none_below j l = omega arith

module _ {X : Type 0} (claims : X → ℕ → Type 0) (d : X) (xs : List X) where
  pub first_none : (w : ℕ) → IsOfFirst claims d xs 0 w → ⊥
  first_none w c = none_below c.0 c.1

  pub first_more : (n w : ℕ) → IsOfFirst claims d xs (n + 1) w → IsOfFirst claims d xs n w ⊎ claims (get_or xs n d) w
  first_more n w c = by (cases_eq c.0 n)
    where
      by : (c.0 ≡ n) ⊎ (c.0 ≢ n) → IsOfFirst claims d xs n w ⊎ claims (get_or xs n d) w
      by (inl e) = inr (subst (λ j. claims (get_or xs j d) w) e c.2)
      by (inr ne) = inl (c.0, omega (arith, c.1, ne), c.2)

  pub first_before : (n w : ℕ) → IsOfFirst claims d xs n w → IsOfFirst claims d xs (n + 1) w
  first_before n w c = (c.0, omega (arith, c.1), c.2)

  pub first_last : (n w : ℕ) → claims (get_or xs n d) w → IsOfFirst claims d xs (n + 1) w
  first_last n w c = (n, omega arith, c)

  pub marked_more : (n : ℕ) (old mid new : List Bool) → IsMarked (IsOfFirst claims d xs n) old mid → IsMarked (claims (get_or xs n d)) mid new → IsMarked (IsOfFirst claims d xs (n + 1)) old new
  marked_more n old mid new p q = marked_then (IsOfFirst claims d xs n) (claims (get_or xs n d)) (IsOfFirst claims d xs (n + 1)) old mid new p q (first_before n) (first_last n) (first_more n)

-- a list in which each number of a set stands once
module _ {X : Type 0} (key : X → ℕ) (xs : List X) (f : ℕ → Bool) (counts : (q : ℕ) → count_by (λ x. key x == q) xs ≡ (if f q then 1 else 0)) where
  -- what all of the list claim is what the set's claim
  pub first_all : (claims : ℕ → ℕ → Type 0) (d : X) (n w : ℕ) → length xs ≤ n → n ≤ length xs → IsOfFirst (λ x. claims (key x)) d xs n w → (q : ℕ) × (f q ≡ true) × claims q w
  first_all claims d n w ge le c = (key (get_or xs c.0 d), of_list key xs f counts c.0 d (omega (arith, c.1, le)), c.2)

  pub all_first : (claims : ℕ → ℕ → Type 0) (d : X) (n w : ℕ) → length xs ≤ n → (q : ℕ) → f q ≡ true → claims q w → IsOfFirst (λ x. claims (key x)) d xs n w
  all_first claims d n w ge q on c = let r = listed key xs f counts q d on in (r.0, omega (arith, r.1, ge), subst (λ z. claims z w) (sym r.2) c)
