-- Rows that match, and covers that are evaluated in order.
use Rattle.std.proofs.Common.{◌≡◌, ℕ, zero, suc, ◌+◌, ◌<◌, ◌≤◌, ◌&&◌, Bool, true, false, List, [], ◌∷◌, length, get_or, map, refl, sym, ap, subst, ◌∙◌, inl, inr, arith, get_or-set_same, get_or-set_other, not, if◌then◌else◌, slice_set}
use Rattle.design_netlist.proofs.Vocabulary.{cases_eq, get_or_default_zero, length-set, Cover, Lit, Zero}
use Rattle.design_netlist.specs.Vocabulary.{cover_at, fits, matches, some_matches, truth, number_at, bit_at, IsOrder, IsSettled, IsSettledTo}
use Rattle.design_netlist.proofs.ValuationLemmas.{same_truth}

pub all_fit : (given : ℕ → Bool) (ls : List Lit) (ss : List ℕ) (m : ℕ) → length ls ≡ length ss → length ls ≤ m → ((j : ℕ) → j < m → fits (get_or ls j Zero) (given (get_or ss j 0)) ≡ true) → matches ls (map given ss) ≡ true
all_fit given [] ss m e le h = refl
all_fit given (l ∷ ls) [] m e le h = refl
all_fit given (l ∷ ls) (s ∷ ss) zero e le h = absurd (omega arith)
all_fit given (l ∷ ls) (s ∷ ss) (suc m) e le h = ap (λ b. b && matches ls (map given ss)) (h 0 (omega arith)) ∙ all_fit given ls ss m (omega arith) (omega arith) (λ j lj. h (suc j) (omega arith))

and_false : (b : Bool) → (b && false) ≡ false
and_false true = refl
and_false false = refl

pub one_misses : (given : ℕ → Bool) (ls : List Lit) (ss : List ℕ) (j : ℕ) → length ls ≡ length ss → j < length ls → fits (get_or ls j Zero) (given (get_or ss j 0)) ≡ false → matches ls (map given ss) ≡ false
one_misses given [] ss j e lj h = absurd (omega arith)
one_misses given (l ∷ ls) [] j e lj h = absurd (omega arith)
one_misses given (l ∷ ls) (s ∷ ss) zero e lj h = ap (λ b. b && matches ls (map given ss)) h
one_misses given (l ∷ ls) (s ∷ ss) (suc j) e lj h = ap (λ b. fits l (given s) && b) (one_misses given ls ss j (omega arith) (omega arith) h) ∙ and_false (fits l (given s))

pub some_row : (rows : List (List Lit)) (bits : List Bool) (j : ℕ) → j < length rows → matches (get_or rows j []) bits ≡ true → some_matches rows bits ≡ true
some_row [] bits j lj h = absurd (omega arith)
some_row (r ∷ rs) bits zero lj h = ap (λ b. if b then true else some_matches rs bits) h
some_row (r ∷ rs) bits (suc j) lj h = by (matches r bits) (some_row rs bits j (omega arith) h)
  where
    by : (b : Bool) → some_matches rs bits ≡ true → (if b then true else some_matches rs bits) ≡ true
    by true e = refl
    by false e = e

pub no_row : (rows : List (List Lit)) (bits : List Bool) (m : ℕ) → length rows ≤ m → ((j : ℕ) → j < m → matches (get_or rows j []) bits ≡ false) → some_matches rows bits ≡ false
no_row [] bits m le h = refl
no_row (r ∷ rs) bits zero le h = absurd (omega arith)
no_row (r ∷ rs) bits (suc m) le h = ap (λ b. if b then true else some_matches rs bits) (h 0 (omega arith)) ∙ no_row rs bits m (omega arith) (λ j lj. h (suc j) (omega arith))

module _ (covers : List Cover) (order : List ℕ) (is : IsOrder covers order) where
  -- an earlier cover doesn't read the next one's output
  not_read : (j k i : ℕ) → j ≤ k → k < length order → i < length (cover_at covers (number_at order j)).ins → (number_at (cover_at covers (number_at order j)).ins i ≡ (cover_at covers (number_at order k)).out) → ⊥
  not_read j k i le lk li e =
      let r = is.earlier j (number_at order k) (omega arith) (record { reader = is.within j (omega arith); driver = is.within k lk; input = (i, li, get_or_default_zero _ i _ li ∙ e) }) in
      is.once r.0 k (omega (arith, r.1)) lk (ap (λ x. (cover_at covers x).out) r.2)

  pub settle_more : (k : ℕ) (old cur : List Bool) (b : Bool) → k < length order → (cover_at covers (number_at order k)).out < length cur → IsSettledTo covers order k old cur → b ≡ truth (bit_at cur) (cover_at covers (number_at order k)) → IsSettledTo covers order (k + 1) old (slice_set cur (cover_at covers (number_at order k)).out b)
  settle_more k old cur b lk lo h e = record {
    len = length-set cur (cover_at covers (number_at order k)).out b ∙ h.len;
    truths = λ j lj. elim (cases_eq j k) [
      | inl s ↦ subst (λ x. bit_at (slice_set cur (cover_at covers (number_at order k)).out b) (cover_at covers (number_at order x)).out ≡ truth (bit_at (slice_set cur (cover_at covers (number_at order k)).out b)) (cover_at covers (number_at order x))) (sym s) (get_or-set_same cur (cover_at covers (number_at order k)).out b false lo ∙ e ∙ sym (same k (omega arith)))
      | inr s ↦ get_or-set_other cur (cover_at covers (number_at order k)).out (cover_at covers (number_at order j)).out b false (λ f. is.once j k (omega arith) lk f) ∙ h.truths j (omega arith) ∙ sym (same j (omega arith))
    ];
    others = λ s none. get_or-set_other cur (cover_at covers (number_at order k)).out s b false (λ f. none k (omega arith) (sym f)) ∙ h.others s (λ j lj. none j (omega arith));
  }
    where
      same : (j : ℕ) → j ≤ k → truth (bit_at (slice_set cur (cover_at covers (number_at order k)).out b)) (cover_at covers (number_at order j)) ≡ truth (bit_at cur) (cover_at covers (number_at order j))
      same j le = same_truth (bit_at (slice_set cur (cover_at covers (number_at order k)).out b)) (bit_at cur) (cover_at covers (number_at order j)) (λ i li. get_or-set_other cur (cover_at covers (number_at order k)).out (number_at (cover_at covers (number_at order j)).ins i) b false (not_read j k i le lk li))

  pub settle_all : (m : ℕ) (old new : List Bool) → m ≡ length order → IsSettledTo covers order m old new → IsSettled covers (bit_at old) (bit_at new)
  settle_all m old new le h = record {
    truths = λ i li. (let a = is.all i li in subst (λ x. bit_at new (cover_at covers x).out ≡ truth (bit_at new) (cover_at covers x)) a.2 (h.truths a.0 (omega (arith, a.1))));
    others = λ s none. h.others s (λ j lj e. none (number_at order j) (is.within j (omega arith)) e);
  }

pub truth_is : (given : ℕ → Bool) (c : Cover) (b : Bool) → some_matches c.rows (map given c.ins) ≡ b → truth given c ≡ (if c.off then not b else b)
truth_is given c b e = ap (λ x. if c.off then not x else x) e

pub when_some : (given : ℕ → Bool) (c : Cover) → some_matches c.rows (map given c.ins) ≡ true → not c.off ≡ truth given c
when_some given c e = sym (truth_is given c true e ∙ by c.off)
  where
    by : (b : Bool) → (if b then not true else true) ≡ not b
    by true = refl
    by false = refl

pub when_none : (given : ℕ → Bool) (c : Cover) → some_matches c.rows (map given c.ins) ≡ false → c.off ≡ truth given c
when_none given c e = sym (truth_is given c false e ∙ by c.off)
  where
    by : (b : Bool) → (if b then not false else false) ≡ b
    by true = refl
    by false = refl
