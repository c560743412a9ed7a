-- What is kept after a gain.
use Rattle.std.proofs.Common.{◌≡◌, ◌≢◌, ◌<◌, ◌≤◌, ◌+◌, ◌*◌, ℕ, Bool, true, false, not, ◌&&◌, inl, inr, ◌⊎◌, Some, None, Option, List, [], ◌∷◌, length, get_or, set, take, replicate, refl, sym, ap, ◌∙◌, subst, arith, ◌==◌, ◌||◌, nat_lt, slice_set, slice_get}
use Rattle.diag_evidence.proofs.Vocabulary.{gets, list_any_more, nat_tests, option_map_or, and_parts, false≢true, has_number, Shape}
use Rattle.diag_evidence.proofs.Vocabulary.{tables_of, Faults, stuck_cross, wrong_cell, stuck_register, Shorted, IsClear, among, Joined-sym}
use native.Mathlib.Decide.{dec_lt}
use Rattle.std.proofs.lemmas.List.{get_or-set_same, get_or-set_other, get_or-replicate, get_or_past, length-replicate}
use Rattle.diag_evidence.specs.Kept.{Kept, keeps_cross, keeps_wire, is_apart, on_trial, in_row, keeps_pair, keeps_cell, keeps_register, HoldsFor, IsMore, KeepsNothing, Gain, one_cross, these_wires, row_over, one_cell, one_register, nothing, Gains}

-- a mark that is set
marked : (xs : List Bool) (x y : ℕ) → x < length xs → get_or (set xs x true) y false ≡ ((x == y) || get_or xs y false)
marked xs x y below = by_test (x == y) refl
  where
    by_test : (t : Bool) → (x == y) ≡ t → get_or (set xs x true) y false ≡ (t || get_or xs y false)
    by_test true e = let same : x ≡ y = grind (arith, nat_tests) in subst (λ z. get_or (set xs x true) z false ≡ true) same (get_or-set_same xs x true false below)
    by_test false e = let other : y ≢ x = λ h. (let no : ⊥ = grind (arith, nat_tests) in no) in get_or-set_other xs x y true false other

-- a mark more in a set
pub mark_set : (xs : List Bool) (x y : ℕ) → x < length xs → has_number (slice_set xs x true) y ≡ ((x == y) || has_number xs y)
mark_set xs x y below = marked xs x y below

pub gains_cross : (k : Kept) (x : ℕ) → x < length k.crosses → Gains (one_cross x) k (record k { crosses = slice_set k.crosses x true })
unfolding keeps_cross keeps_wire is_apart in_row keeps_cell keeps_register
gains_cross k x below = record { shape = refl; crosses = λ y. marked k.crosses x y below; wires = λ w. refl; apart = λ w. refl; trial = refl; row = λ w. refl; cells = λ t a. refl; registers = λ t. refl }

pub gains_register : (k : Kept) (t : ℕ) → t < length k.registers → Gains (one_register t) k (record k { registers = slice_set k.registers t true })
unfolding keeps_cross keeps_wire is_apart in_row keeps_cell keeps_register
gains_register k t below = record { shape = refl; crosses = λ x. refl; wires = λ w. refl; apart = λ w. refl; trial = refl; row = λ w. refl; cells = λ t a. refl; registers = λ u. marked k.registers t u below }

same_place : (t a u b : ℕ) → a < 64 → b < 64 → (64 * t + a == 64 * u + b) ≡ ((t == u) && (a == b))
same_place t a u b p q = by_tests (t == u) (a == b) refl refl
  where
    by_tests : (v w : Bool) → (t == u) ≡ v → (a == b) ≡ w → (64 * t + a == 64 * u + b) ≡ (v && w)
    by_tests true true e d = grind (arith, nat_tests)
    by_tests true false e d = grind (arith, nat_tests)
    by_tests false w e d = grind (arith, nat_tests)

-- a cell's mark that is set
marked_cell : (cells : List Bool) (t a u b : ℕ) → a < 64 → 64 * t + a < length cells → (nat_lt b 64 && get_or (set cells (64 * t + a) true) (64 * u + b) false) ≡ (((t == u) && (a == b)) || (nat_lt b 64 && get_or cells (64 * u + b) false))
marked_cell cells t a u b p below = by_test (nat_lt b 64) refl
  where
    by_test : (v : Bool) → nat_lt b 64 ≡ v → (v && get_or (set cells (64 * t + a) true) (64 * u + b) false) ≡ (((t == u) && (a == b)) || (v && get_or cells (64 * u + b) false))
    by_test true e = marked cells (64 * t + a) (64 * u + b) below ∙ ap (λ w. w || get_or cells (64 * u + b) false) (same_place t a u b p (grind (arith, nat_tests)))
    by_test false e = neither (t == u) (a == b) (grind (arith, nat_tests))
      where
        neither : (v w : Bool) → w ≡ false → false ≡ ((v && w) || false)
        neither true w h = rw h refl
        neither false w h = refl

pub gains_cell : (k : Kept) (t a : ℕ) → a < 64 → 64 * t + a < length k.cells → Gains (one_cell t a) k (record k { cells = slice_set k.cells (64 * t + a) true })
unfolding keeps_cross keeps_wire is_apart in_row keeps_cell keeps_register
gains_cell k t a p below = record { shape = refl; crosses = λ x. refl; wires = λ w. refl; apart = λ w. refl; trial = refl; row = λ w. refl; cells = λ u b. marked_cell k.cells t a u b p below; registers = λ t. refl }

pub gains_wires : (k : Kept) (ws : List ℕ) (wires : List Bool) → ((w : ℕ) → has_number wires w ≡ (among ws w || has_number k.wires w)) → Gains (these_wires ws) k (record k { wires = wires })
unfolding keeps_cross keeps_wire is_apart in_row keeps_cell keeps_register
gains_wires k ws wires marks = record { shape = refl; crosses = λ x. refl; wires = marks; apart = λ w. refl; trial = refl; row = λ w. refl; cells = λ t a. refl; registers = λ t. refl }

pub gains_row : (k : Kept) (ws us : List ℕ) (row : List Bool) (t : ℕ) → k.trial ≡ Some t → among ws t ≡ true →
    ((u : ℕ) → has_number row u ≡ (among us u || has_number k.row u)) → Gains (row_over k.trial ws us) k (record k { row = row })
unfolding keeps_cross keeps_wire is_apart in_row keeps_cell keeps_register
gains_row k ws us row t tried is marks = record {
  shape = refl;
  crosses = λ x. refl;
  wires = λ w. refl;
  apart = λ w. refl;
  trial = refl;
  row = λ u. marks u ∙ ap (λ b. (b && among us u) || has_number k.row u) (sym (ap (λ o. option_map_or (λ t. among ws t) o false) tried ∙ is));
  cells = λ t a. refl;
  registers = λ t. refl;
}

-- where the wire on trial is none of the first list, nothing is gained
pub gains_no_row : (k : Kept) (ws us : List ℕ) → option_map_or (λ t. among ws t) k.trial false ≡ false → Gains (row_over k.trial ws us) k k
gains_no_row k ws us none = record {
  shape = refl;
  crosses = λ x. refl;
  wires = λ w. refl;
  apart = λ w. refl;
  trial = refl;
  row = λ u. sym (ap (λ b. (b && among us u) || in_row k u) none);
  cells = λ t a. refl;
  registers = λ t. refl;
}

-- wires join the set
pub gains_apart : (gain : ℕ → Bool) (k : Kept) (apart : List Bool) → ((w : ℕ) → has_number apart w ≡ (gain w || has_number k.apart w)) →
    Gains (record nothing { apart = gain }) k (record k { apart = apart })
unfolding keeps_cross keeps_wire is_apart in_row keeps_cell keeps_register
gains_apart gain k apart marks = record { shape = refl; crosses = λ x. refl; wires = λ w. refl; apart = marks; trial = refl; row = λ w. refl; cells = λ t a. refl; registers = λ t. refl }

-- what is kept by code
pub has_cross : (k : Kept) (x : ℕ) → has_number k.crosses x ≡ keeps_cross k x
unfolding keeps_cross
has_cross k x = refl

pub has_wire : (k : Kept) (w : ℕ) → has_number k.wires w ≡ keeps_wire k w
unfolding keeps_wire
has_wire k w = refl

pub has_apart : (k : Kept) (w : ℕ) → has_number k.apart w ≡ is_apart k w
unfolding is_apart
has_apart k w = refl

pub has_row : (k : Kept) (w : ℕ) → has_number k.row w ≡ in_row k w
unfolding in_row
has_row k w = refl

-- the wire on trial
pub tried_is : (k : Kept) (t : ℕ) → k.trial ≡ Some t → on_trial k t ≡ true
unfolding on_trial
tried_is k t e = ap (λ o. option_map_or (λ u. u == t) o false) e ∙ (let same : (t == t) ≡ true = grind (arith, nat_tests) in same)

pub tried_only : (k : Kept) (t w : ℕ) → k.trial ≡ Some t → on_trial k w ≡ true → t ≡ w
unfolding on_trial
tried_only k t w e is =
    let s : (t == w) ≡ true = sym (ap (λ o. option_map_or (λ u. u == w) o false) e) ∙ is in
    grind (arith, nat_tests, s)

pub tried_none : (k : Kept) (w : ℕ) → k.trial ≡ None → on_trial k w ≡ false
unfolding on_trial
tried_none k w e = ap (λ o. option_map_or (λ u. u == w) o false) e

pub tried_other : (k : Kept) (t w : ℕ) → k.trial ≡ Some t → (t == w) ≡ false → on_trial k w ≡ false
unfolding on_trial
tried_other k t w e n = ap (λ o. option_map_or (λ u. u == w) o false) e ∙ n

-- a kept pair: both are of the set, or one is on trial and the other of its row
pub data IsPair (k : Kept) (a b : ℕ) : Type 0 where
  of_set : is_apart k a ≡ true → is_apart k b ≡ true → IsPair k a b
  of_row : on_trial k a ≡ true → in_row k b ≡ true → IsPair k a b
  of_other : on_trial k b ≡ true → in_row k a ≡ true → IsPair k a b

pub pair_differs : (k : Kept) (a b : ℕ) → keeps_pair k a b ≡ true → a ≢ b
unfolding keeps_pair
pair_differs k a b is e = (let p = and_parts (not (a == b)) _ is in let n = p.0 in let no : ⊥ = grind (arith, nat_tests, n, e) in no)

pub pair_is : (k : Kept) (a b : ℕ) → keeps_pair k a b ≡ true → IsPair k a b
unfolding keeps_pair
pair_is k a b is = by (is_apart k a) (is_apart k b) (on_trial k a) (in_row k b) (on_trial k b) (in_row k a) refl refl refl refl refl refl (and_parts (not (a == b)) _ is).1
  where
    by : (x y t r u s : Bool) → is_apart k a ≡ x → is_apart k b ≡ y → on_trial k a ≡ t → in_row k b ≡ r → on_trial k b ≡ u → in_row k a ≡ s →
        ((x && y) || ((t && r) || (u && s))) ≡ true → IsPair k a b
    by true true t r u s e f g h i j on = of_set e f
    by true false true true u s e f g h i j on = of_row g h
    by true false true false true true e f g h i j on = of_other i j
    by true false true false true false e f g h i j on = absurd (false≢true on)
    by true false true false false s e f g h i j on = absurd (false≢true on)
    by true false false r true true e f g h i j on = of_other i j
    by true false false r true false e f g h i j on = absurd (false≢true on)
    by true false false r false s e f g h i j on = absurd (false≢true on)
    by false y true true u s e f g h i j on = of_row g h
    by false y true false true true e f g h i j on = of_other i j
    by false y true false true false e f g h i j on = absurd (false≢true on)
    by false y true false false s e f g h i j on = absurd (false≢true on)
    by false y false r true true e f g h i j on = of_other i j
    by false y false r true false e f g h i j on = absurd (false≢true on)
    by false y false r false s e f g h i j on = absurd (false≢true on)

pub pair_of : (k : Kept) (a b : ℕ) → a ≢ b → IsPair k a b → keeps_pair k a b ≡ true
unfolding keeps_pair
pair_of k a b n is = ap (λ t. t && ((is_apart k a && is_apart k b) || ((on_trial k a && in_row k b) || (on_trial k b && in_row k a)))) other ∙ by is
  where
    other : not (a == b) ≡ true
    other = grind (arith, nat_tests, n)

    first : (x y t : Bool) → x ≡ true → y ≡ true → ((x && y) || t) ≡ true
    first x y t e f = rw (e, f) refl

    second : (x y t u : Bool) → x ≡ true → y ≡ true → (t || ((x && y) || u)) ≡ true
    second x y true u e f = refl
    second x y false u e f = rw (e, f) refl

    third : (x y t u : Bool) → x ≡ true → y ≡ true → (t || (u || (x && y))) ≡ true
    third x y true u e f = refl
    third x y false true e f = refl
    third x y false false e f = rw (e, f) refl

    by : IsPair k a b → ((is_apart k a && is_apart k b) || ((on_trial k a && in_row k b) || (on_trial k b && in_row k a))) ≡ true
    by (of_set e f) = first (is_apart k a) (is_apart k b) _ e f
    by (of_row e f) = second (on_trial k a) (in_row k b) (is_apart k a && is_apart k b) (on_trial k b && in_row k a) e f
    by (of_other e f) = third (on_trial k b) (in_row k a) (is_apart k a && is_apart k b) (on_trial k a && in_row k b) e f

-- two different wires of the set are a kept pair
pub pair_apart : (k : Kept) (a b : ℕ) → a ≢ b → is_apart k a ≡ true → is_apart k b ≡ true → keeps_pair k a b ≡ true
pair_apart k a b n e f = pair_of k a b n (of_set e f)

-- .. and all that code says of one
pub pair_set : (k : Kept) (a b : ℕ) → a ≢ b → (has_number k.apart a && has_number k.apart b) ≡ true → true ≡ keeps_pair k a b
pair_set k a b n on = let p = and_parts (has_number k.apart a) (has_number k.apart b) on in sym (pair_apart k a b n (sym (has_apart k a) ∙ p.0) (sym (has_apart k b) ∙ p.1))

pub pair_tried : (k : Kept) (a b : ℕ) → a ≢ b → (has_number k.apart a && has_number k.apart b) ≡ false → k.trial ≡ Some a → has_number k.row b ≡ keeps_pair k a b
unfolding keeps_pair is_apart in_row
pair_tried k a b n off e =
    let other : not (a == b) ≡ true = grind (arith, nat_tests, n) in
    let differ : (a == b) ≡ false = grind (arith, nat_tests, n) in
    sym (ap (λ t. t && ((is_apart k a && is_apart k b) || ((on_trial k a && in_row k b) || (on_trial k b && in_row k a)))) other
    ∙ ap (λ t. t || ((on_trial k a && in_row k b) || (on_trial k b && in_row k a))) off
    ∙ ap (λ t. (t && in_row k b) || (on_trial k b && in_row k a)) (tried_is k a e)
    ∙ ap (λ t. in_row k b || (t && in_row k a)) (tried_other k a b e differ) ∙ or_none (in_row k b))
  where
    or_none : (t : Bool) → (t || false) ≡ t
    or_none true = refl
    or_none false = refl

pub pair_other : (k : Kept) (a b : ℕ) → a ≢ b → (has_number k.apart a && has_number k.apart b) ≡ false → k.trial ≡ Some b → has_number k.row a ≡ keeps_pair k a b
unfolding keeps_pair is_apart in_row
pair_other k a b n off e =
    let other : not (a == b) ≡ true = grind (arith, nat_tests, n) in
    let differ : (b == a) ≡ false = grind (arith, nat_tests, n) in
    sym (ap (λ t. t && ((is_apart k a && is_apart k b) || ((on_trial k a && in_row k b) || (on_trial k b && in_row k a)))) other
    ∙ ap (λ t. t || ((on_trial k a && in_row k b) || (on_trial k b && in_row k a))) off
    ∙ ap (λ t. (t && in_row k b) || (on_trial k b && in_row k a)) (tried_other k b a e differ)
    ∙ ap (λ t. t && in_row k a) (tried_is k b e))

pub pair_none : (k : Kept) (a b : ℕ) → (has_number k.apart a && has_number k.apart b) ≡ false → on_trial k a ≡ false → on_trial k b ≡ false → false ≡ keeps_pair k a b
unfolding keeps_pair is_apart
pair_none k a b off e f =
    sym (ap (λ t. not (a == b) && (t || ((on_trial k a && in_row k b) || (on_trial k b && in_row k a)))) off
    ∙ ap (λ t. not (a == b) && ((t && in_row k b) || (on_trial k b && in_row k a))) e
    ∙ ap (λ t. not (a == b) && (t && in_row k a)) f ∙ none (not (a == b)))
  where
    none : (t : Bool) → (t && false) ≡ false
    none true = refl
    none false = refl

pub has_cell : (k : Kept) (t a : ℕ) → a < 64 → has_number k.cells (64 * t + a) ≡ keeps_cell k t a
unfolding keeps_cell
has_cell k t a below = let is : nat_lt a 64 ≡ true = grind (arith, nat_tests) in rw is refl

pub has_register : (k : Kept) (t : ℕ) → has_number k.registers t ≡ keeps_register k t
unfolding keeps_register
has_register k t = refl

or_right : (a b c : Bool) → c ≡ (a || b) → b ≡ true → c ≡ true
or_right true b c e is = e
or_right false b c e is = e ∙ is

or_case : (a b c : Bool) (P : Type 0) → c ≡ (a || b) → c ≡ true → (a ≡ true → P) → (b ≡ true → P) → P
or_case true b c P e is one other = one refl
or_case false b c P e is one other = other (sym e ∙ is)

pub more_itself : (k : Kept) → IsMore k k
more_itself k = record { shape = refl; crosses = λ x is. is; wires = λ w is. is; apart = λ w is. is; cells = λ t a is. is; registers = λ t is. is }

-- with a gain more is kept
pub more_by_gain : (gain : Gain) (k l : Kept) → Gains gain k l → IsMore k l
more_by_gain gain k l g = record {
  shape = g.shape;
  crosses = λ x. or_right (gain.crosses x) _ _ (g.crosses x);
  wires = λ w. or_right (gain.wires w) _ _ (g.wires w);
  apart = λ w. or_right (gain.apart w) _ _ (g.apart w);
  cells = λ t a. or_right (gain.cells t a) _ _ (g.cells t a);
  registers = λ t. or_right (gain.registers t) _ _ (g.registers t);
}

-- What is gained is true of the faults: wires that join the set are shorted neither to one another nor to one of it, nor is the wire on
-- trial to those that come into its row.
pub record GainHoldsFor (k : Kept) (gain : Gain) (f : Faults) : Type 0 where
  pub crosses : (x : ℕ) → gain.crosses x ≡ true → stuck_cross f x ≡ None
  pub wires : (w : ℕ) → gain.wires w ≡ true → IsClear k.shape f w
  pub joined : (a b : ℕ) → gain.apart a ≡ true → gain.apart b ≡ true → a ≢ b → ¬ Shorted k.shape f a b
  pub joins : (a b : ℕ) → gain.apart a ≡ true → is_apart k b ≡ true → a ≢ b → ¬ Shorted k.shape f a b
  pub row : (a b : ℕ) → on_trial k a ≡ true → gain.row b ≡ true → a ≢ b → ¬ Shorted k.shape f a b
  pub cells : (t a : ℕ) → gain.cells t a ≡ true → wrong_cell f t a ≡ None
  pub registers : (t : ℕ) → gain.registers t ≡ true → stuck_register f t ≡ None

-- the same wire is on trial
pub same_trial : (k l : Kept) (w : ℕ) → l.trial ≡ k.trial → on_trial l w ≡ on_trial k w
unfolding on_trial
same_trial k l w e = ap (λ o. option_map_or (λ t. t == w) o false) e

module _ (gain : Gain) (k l : Kept) (f : Faults) (g : Gains gain k l) (h : HoldsFor k f) (n : GainHoldsFor k gain f) where
  both_apart : (a b : ℕ) → a ≢ b → is_apart l a ≡ true → is_apart l b ≡ true → ¬ Shorted k.shape f a b
  both_apart a b d p q = or_case (gain.apart a) _ _ _ (g.apart a) p
      (λ e. or_case (gain.apart b) _ _ _ (g.apart b) q (λ i. n.joined a b e i d) (λ i. n.joins a b e i d))
      (λ e. or_case (gain.apart b) _ _ _ (g.apart b) q (λ i j. n.joins b a i e (λ same. d (sym same)) (Joined-sym j)) (λ i. h.pairs a b (pair_apart k a b d e i)))

  one_row : (a b : ℕ) → a ≢ b → on_trial l a ≡ true → in_row l b ≡ true → ¬ Shorted k.shape f a b
  one_row a b d p q = let t = sym (same_trial k l a g.trial) ∙ p in or_case (gain.row b) _ _ _ (g.row b) q (λ i. n.row a b t i d) (λ i. h.pairs a b (pair_of k a b d (of_row t i)))

  unshorted : (a b : ℕ) → a ≢ b → IsPair l a b → ¬ Shorted k.shape f a b
  unshorted a b d (of_set p q) = both_apart a b d p q
  unshorted a b d (of_row p q) = one_row a b d p q
  unshorted a b d (of_other p q) = λ j. one_row b a (λ same. d (sym same)) p q (Joined-sym j)

  pub holds_by_gain : HoldsFor l f
  holds_by_gain = record {
    crosses = λ x is. or_case (gain.crosses x) _ _ _ (g.crosses x) is (n.crosses x) (h.crosses x);
    wires = λ w is. rw g.shape (or_case (gain.wires w) _ _ _ (g.wires w) is (n.wires w) (h.wires w));
    pairs = λ a b is. rw g.shape (unshorted a b (pair_differs l a b is) (pair_is l a b is));
    cells = λ t a is. or_case (gain.cells t a) _ _ _ (g.cells t a) is (n.cells t a) (h.cells t a);
    registers = λ t is. or_case (gain.registers t) _ _ _ (g.registers t) is (n.registers t) (h.registers t);
  }

-- each pair that was kept before a gain is after it
same_row : (gain : Gain) (k l : Kept) → Gains gain k l → (a b : ℕ) → keeps_pair k a b ≡ true → keeps_pair l a b ≡ true
same_row gain k l g a b is = pair_of l a b (pair_differs k a b is) (by (pair_is k a b is))
  where
    by : IsPair k a b → IsPair l a b
    by (of_set p q) = of_set (or_right (gain.apart a) _ _ (g.apart a) p) (or_right (gain.apart b) _ _ (g.apart b) q)
    by (of_row p q) = of_row (same_trial k l a g.trial ∙ p) (or_right (gain.row b) _ _ (g.row b) q)
    by (of_other p q) = of_other (same_trial k l b g.trial ∙ p) (or_right (gain.row a) _ _ (g.row a) q)

-- what is kept with a gain is true only of faults of which it was true before
pub held_before : (gain : Gain) (k l : Kept) (f : Faults) → Gains gain k l → HoldsFor l f → HoldsFor k f
held_before gain k l f g h = record {
  crosses = λ x is. h.crosses x (or_right (gain.crosses x) _ _ (g.crosses x) is);
  wires = λ w is. subst (λ m. IsClear m f w) g.shape (h.wires w (or_right (gain.wires w) _ _ (g.wires w) is));
  pairs = λ a b is. subst (λ m. ¬ Shorted m f a b) g.shape (h.pairs a b (same_row gain k l g a b is));
  cells = λ t a is. h.cells t a (or_right (gain.cells t a) _ _ (g.cells t a) is);
  registers = λ t is. h.registers t (or_right (gain.registers t) _ _ (g.registers t) is);
}

pub cross_holds : (k : Kept) (x : ℕ) (f : Faults) → stuck_cross f x ≡ None → GainHoldsFor k (one_cross x) f
cross_holds k x f free = record {
  crosses = λ y is. (let same : x ≡ y = grind (arith, nat_tests) in subst (λ z. stuck_cross f z ≡ None) same free);
  wires = λ w is. cc;
  joined = λ a b is. cc;
  joins = λ a b is. cc;
  row = λ a b t is. cc;
  cells = λ t a is. cc;
  registers = λ t is. cc;
}

pub register_holds : (k : Kept) (t : ℕ) (f : Faults) → stuck_register f t ≡ None → GainHoldsFor k (one_register t) f
register_holds k t f free = record {
  crosses = λ x is. cc;
  wires = λ w is. cc;
  joined = λ a b is. cc;
  joins = λ a b is. cc;
  row = λ a b t is. cc;
  cells = λ t a is. cc;
  registers = λ u is. (let same : t ≡ u = grind (arith, nat_tests) in subst (λ z. stuck_register f z ≡ None) same free);
}

pub cell_holds : (k : Kept) (t a : ℕ) (f : Faults) → wrong_cell f t a ≡ None → GainHoldsFor k (one_cell t a) f
cell_holds k t a f free = record {
  crosses = λ x is. cc;
  wires = λ w is. cc;
  joined = λ a b is. cc;
  joins = λ a b is. cc;
  row = λ a b t is. cc;
  registers = λ t is. cc;
  cells = λ u b is. by_both u b (and_parts (t == u) (a == b) is);
}
  where
    by_both : (u b : ℕ) → ((t == u) ≡ true) × ((a == b) ≡ true) → wrong_cell f u b ≡ None
    by_both u b h =
        let table : t ≡ u = grind (arith, nat_tests, h.0) in
        let address : a ≡ b = grind (arith, nat_tests, h.1) in
        subst (λ z. wrong_cell f z b ≡ None) table (subst (λ z. wrong_cell f t z ≡ None) address free)

pub wires_hold : (k : Kept) (ws : List ℕ) (f : Faults) → ((w : ℕ) → among ws w ≡ true → IsClear k.shape f w) → GainHoldsFor k (these_wires ws) f
wires_hold k ws f clear = record { crosses = λ x is. cc; wires = clear; joined = λ a b is. cc; joins = λ a b is. cc; row = λ a b t is. cc; cells = λ t a is. cc; registers = λ t is. cc }

pub row_holds : (k : Kept) (ws us : List ℕ) (f : Faults) → ((w u : ℕ) → among ws w ≡ true → among us u ≡ true → ¬ Shorted k.shape f w u) → GainHoldsFor k (row_over k.trial ws us) f
row_holds k ws us f apart = record {
  crosses = λ x is. cc;
  wires = λ w is. cc;
  joined = λ a b is. cc;
  joins = λ a b is. cc;
  row = λ a b t is n. by k.trial refl a b t (and_parts (option_map_or (λ t. among ws t) k.trial false) (among us b) is);
  cells = λ t a is. cc;
  registers = λ t is. cc;
}
  where
    by : (o : Option ℕ) → k.trial ≡ o → (a b : ℕ) → on_trial k a ≡ true → (option_map_or (λ t. among ws t) k.trial false ≡ true) × (among us b ≡ true) → ¬ Shorted k.shape f a b
    by None e a b t p = absurd (false≢true (sym (tried_none k a e) ∙ t))
    by (Some w) e a b t p = apart a b (subst (λ v. among ws v ≡ true) (tried_only k w a e t) (sym (ap (λ o. option_map_or (λ t. among ws t) o false) e) ∙ p.0)) p.1

pub or_swapped : (a b c : Bool) → (a || (b || c)) ≡ ((b || a) || c)
or_swapped true true c = refl
or_swapped true false c = refl
or_swapped false true c = refl
or_swapped false false c = refl

-- one wire more is marked
pub mark_next : (ws : List ℕ) (k x : ℕ) (old now : List Bool) → k < length ws → slice_get ws k ≡ Some x → x < length now →
    ((w : ℕ) → has_number now w ≡ (among (take k ws) w || has_number old w)) → (w : ℕ) → has_number (slice_set now x true) w ≡ (among (take (k + 1) ws) w || has_number old w)
mark_next ws k x old now below at within marks w =
    let value : get_or ws k 0 ≡ x = grind (arith, gets, at) in
    marked now x w within ∙ ap (λ b. (x == w) || b) (marks w) ∙ or_swapped (x == w) (among (take k ws) w) (has_number old w)
    ∙ ap (λ b. b || has_number old w) (sym (list_any_more (λ y. y == w) ws k 0 below ∙ ap (λ y. among (take k ws) w || (y == w)) value))

more_among : (ws : List ℕ) (k x y : ℕ) → k < length ws → slice_get ws k ≡ Some x → among (take (k + 1) ws) y ≡ (among (take k ws) y || (x == y))
more_among ws k x y below at =
    let value : get_or ws k 0 ≡ x = grind (arith, gets, at) in
    list_any_more (λ z. z == y) ws k 0 below ∙ ap (λ z. among (take k ws) y || (z == y)) value

pub no_mark : (n x : ℕ) → has_number (replicate n false) x ≡ false
no_mark n x = by_place (dec_lt x n)
  where
    by_place : Dec (x < n) → get_or (replicate n false) x false ≡ false
    by_place (yes h) = get_or-replicate n x false false h
    by_place (no h) = let past : n ≤ x = omega arith in get_or_past (replicate n false) x false (rw length-replicate past)

neither : (a b : Bool) → b ≡ false → (a && b) ≡ false
neither true b e = e
neither false b e = refl

-- where no mark is set, nothing is kept
pub keeps_none : (m : Shape) (a b c d e r : ℕ) →
    KeepsNothing (record { shape = m; crosses = replicate a false; wires = replicate b false; apart = replicate c false; trial = None; row = replicate r false; cells = replicate d false; registers = replicate e false })
unfolding keeps_cross keeps_wire is_apart on_trial keeps_pair keeps_cell keeps_register
keeps_none m a b c d e r = record {
  crosses = no_mark a;
  wires = no_mark b;
  pairs = λ w u. neither (not (w == u)) _ (ap (λ t. (t && has_number (replicate c false) u) || false) (no_mark c w));
  apart = no_mark c;
  registers = no_mark e;
  cells = λ t y. neither (nat_lt y 64) _ (no_mark d (64 * t + y));
}

-- a number that is marked has a mark
pub number_below : (marks : List Bool) (x : ℕ) → has_number marks x ≡ true → x < length marks
number_below marks x is = by (dec_lt x (length marks))
  where
    by : Dec (x < length marks) → x < length marks
    by (yes h) = h
    by (no h) = let past : length marks ≤ x = omega arith in absurd (false≢true (sym (get_or_past marks x false past) ∙ is))

-- a table of the machine, whichever way the facts are read
pub table_within : {k l : Kept} {t : ℕ} → k ≡ l → t < tables_of l.shape → t < tables_of k.shape
table_within {t = t} same within = subst (λ (k : Kept). t < tables_of k.shape) (sym same) within
