-- The only crosspoint of a walk that isn't kept, and what walks gain one after the other.
use Rattle.std.proofs.Common.{◌≡◌, ◌≢◌, ◌⊎◌, inl, inr, ℕ, zero, suc, ◌<◌, ◌+◌, Bool, true, false, not, ◌&&◌, ◌||◌, Some, None, Option, List, [], ◌∷◌, length, get_or, take, refl, sym, ap, ◌∙◌, subst, arith, ◌==◌, slice_get, IfSome}
use Rattle.diag_evidence.proofs.Vocabulary.{Cross, list_any, list_all, false≢true, and_parts, or_cases, nat_tests, list_any_more, gets}
use Rattle.diag_evidence.proofs.Vocabulary.{among, Kept, Gains, nothing, one_cross, keeps_cross, is_only_unkept, these_crosses}
use Rattle.std.proofs.Math.Bool.{or_comm}
use native.Mathlib.Decide.{ℕ_discrete}
use Rattle.diag_evidence.proofs.Leading.{first_or_more}

-- in words: it is among them, isn't kept, and each other one is
pub record IsOnly (k : Kept) (xs : List ℕ) (x : ℕ) : Type 0 where
  pub is_in : among xs x ≡ true
  pub unkept : keeps_cross k x ≡ false
  pub others : (y : ℕ) → among xs y ≡ true → (y ≡ x) ⊎ (keeps_cross k y ≡ true)

not_true : (b : Bool) → not b ≡ true → b ≡ false
not_true true e = absurd (false≢true e)
not_true false e = refl

all_at : (p : ℕ → Bool) (xs : List ℕ) → list_all p xs ≡ true → (y : ℕ) → among xs y ≡ true → p y ≡ true
all_at p [] all y is = absurd (false≢true is)
all_at p (x ∷ xs) all y is = by (first_or_more x y xs is) (all_at p xs (and_parts _ _ all).1 y)
  where
    by : (x ≡ y) ⊎ (among xs y ≡ true) → (among xs y ≡ true → p y ≡ true) → p y ≡ true
    by (inl e) more = subst (λ z. p z ≡ true) e (and_parts _ _ all).0
    by (inr h) more = more h

all_by : (p : ℕ → Bool) (xs : List ℕ) → ((y : ℕ) → among xs y ≡ true → p y ≡ true) → list_all p xs ≡ true
all_by p [] each = refl
all_by p (x ∷ xs) each = rw (each x (grind (arith, nat_tests)), all_by p xs (λ y h. each y (grind (arith, nat_tests)))) refl

pub only_of : (k : Kept) (xs : List ℕ) (x : ℕ) → is_only_unkept k xs x ≡ true → IsOnly k xs x
only_of k xs x is =
    let first = and_parts (among xs x) _ is in
    let rest = and_parts (not (keeps_cross k x)) _ first.1 in
    record { is_in = first.0; unkept = not_true _ rest.0; others = λ y h. by y (or_cases (y == x) (keeps_cross k y) (all_at (λ y. (y == x) || keeps_cross k y) xs rest.1 y h)) }
  where
    by : (y : ℕ) → ((y == x) ≡ true) ⊎ (keeps_cross k y ≡ true) → (y ≡ x) ⊎ (keeps_cross k y ≡ true)
    by y (inl e) = inl (grind (arith, nat_tests))
    by y (inr h) = inr h

pub of_only : (k : Kept) (xs : List ℕ) (x : ℕ) → IsOnly k xs x → is_only_unkept k xs x ≡ true
of_only k xs x o = rw (o.is_in, o.unkept, all_by (λ y. (y == x) || keeps_cross k y) xs (λ y h. by y (o.others y h))) refl
  where
    by : (y : ℕ) → (y ≡ x) ⊎ (keeps_cross k y ≡ true) → ((y == x) || keeps_cross k y) ≡ true
    by y (inl e) = let t : (y == x) ≡ true = grind (arith, nat_tests) in rw t refl
    by y (inr h) = turned (y == x) (keeps_cross k y) h
      where
        turned : (a b : Bool) → b ≡ true → (a || b) ≡ true
        turned true b e = refl
        turned false b e = e

false_by : (b : Bool) → (b ≡ true → ⊥) → b ≡ false
false_by true n = absurd (n refl)
false_by false n = refl

true_or_false : (b : Bool) → (b ≡ true) ⊎ (b ≡ false)
true_or_false true = inl refl
true_or_false false = inr refl

-- all of these are kept
pub AllKept : Kept → List ℕ → Type 0
AllKept k xs = (y : ℕ) → among xs y ≡ true → keeps_cross k y ≡ true

more_among : (xs : List ℕ) (i x y : ℕ) → i < length xs → slice_get xs i ≡ Some x → among (take (i + 1) xs) y ≡ (among (take i xs) y || (x == y))
more_among xs i x y below at =
    let value : get_or xs i 0 ≡ x = grind (arith, gets, at) in
    list_any_more (λ z. z == y) xs i 0 below ∙ ap (λ z. among (take i xs) y || (z == y)) value

module _ (k : Kept) (xs : List ℕ) (i x : ℕ) (below : i < length xs) (at : slice_get xs i ≡ Some x) where
  old_or_this : (y : ℕ) → among (take (i + 1) xs) y ≡ true → (among (take i xs) y ≡ true) ⊎ (x ≡ y)
  old_or_this y is = by (or_cases (among (take i xs) y) (x == y) (sym (more_among xs i x y below at) ∙ is))
    where
      by : (among (take i xs) y ≡ true) ⊎ ((x == y) ≡ true) → (among (take i xs) y ≡ true) ⊎ (x ≡ y)
      by (inl h) = inl h
      by (inr h) = inr (grind (arith, nat_tests))

  old_in : (y : ℕ) → among (take i xs) y ≡ true → among (take (i + 1) xs) y ≡ true
  old_in y is = more_among xs i x y below at ∙ ap (λ b. b || (x == y)) is

  this_in : among (take (i + 1) xs) x ≡ true
  this_in = more_among xs i x x below at ∙ (let t : (x == x) ≡ true = grind (arith, nat_tests) in ap (λ b. among (take i xs) x || b) t ∙ turned (among (take i xs) x))
    where
      turned : (a : Bool) → (a || true) ≡ true
      turned true = refl
      turned false = refl

  -- one more that is kept
  pub kept_more : keeps_cross k x ≡ true → AllKept k (take i xs) → AllKept k (take (i + 1) xs)
  unfolding AllKept
  kept_more h all y is = by (old_or_this y is)
    where
      by : (among (take i xs) y ≡ true) ⊎ (x ≡ y) → keeps_cross k y ≡ true
      by (inl o) = all y o
      by (inr e) = subst (λ z. keeps_cross k z ≡ true) e h

  pub only_more : keeps_cross k x ≡ true → (c : ℕ) → is_only_unkept k (take i xs) c ≡ true → is_only_unkept k (take (i + 1) xs) c ≡ true
  only_more h c is = let o = only_of k (take i xs) c is in of_only k (take (i + 1) xs) c (record { is_in = old_in c o.is_in; unkept = o.unkept; others = λ y q. by o y (old_or_this y q) })
    where
      by : IsOnly k (take i xs) c → (y : ℕ) → (among (take i xs) y ≡ true) ⊎ (x ≡ y) → (y ≡ c) ⊎ (keeps_cross k y ≡ true)
      by o y (inl q) = o.others y q
      by o y (inr e) = inr (subst (λ z. keeps_cross k z ≡ true) e h)

  -- the first that isn't
  pub only_this : keeps_cross k x ≡ false → AllKept k (take i xs) → is_only_unkept k (take (i + 1) xs) x ≡ true
  unfolding AllKept
  only_this h all = of_only k (take (i + 1) xs) x (record { is_in = this_in; unkept = h; others = λ y q. by y (old_or_this y q) })
    where
      by : (y : ℕ) → (among (take i xs) y ≡ true) ⊎ (x ≡ y) → (y ≡ x) ⊎ (keeps_cross k y ≡ true)
      by y (inl q) = inr (all y q)
      by y (inr e) = inl (sym e)

  -- the same once more
  pub only_again : (c : ℕ) → c ≡ x → is_only_unkept k (take i xs) c ≡ true → is_only_unkept k (take (i + 1) xs) x ≡ true
  only_again c e is = let o = only_of k (take i xs) c is in of_only k (take (i + 1) xs) x (record { is_in = this_in; unkept = subst (λ z. keeps_cross k z ≡ false) e o.unkept; others = λ y q. by o y (old_or_this y q) })
    where
      by : IsOnly k (take i xs) c → (y : ℕ) → (among (take i xs) y ≡ true) ⊎ (x ≡ y) → (y ≡ x) ⊎ (keeps_cross k y ≡ true)
      by o y (inl q) = by_other (o.others y q)
        where
          by_other : (y ≡ c) ⊎ (keeps_cross k y ≡ true) → (y ≡ x) ⊎ (keeps_cross k y ≡ true)
          by_other (inl s) = inl (s ∙ e)
          by_other (inr h) = inr h
      by o y (inr s) = inl (sym s)

  -- another one that isn't kept: then there is no only one
  pub no_only : keeps_cross k x ≡ false → (c : ℕ) → c ≢ x → is_only_unkept k (take i xs) c ≡ true → (among xs c ≡ true) → (among xs x ≡ true) → (y : ℕ) → is_only_unkept k xs y ≡ false
  no_only h c n is c_in x_in y = false_by (is_only_unkept k xs y) (λ only. by (only_of k xs y only))
    where
      unkept_is : (z : ℕ) → keeps_cross k z ≡ false → (z ≡ y) ⊎ (keeps_cross k z ≡ true) → z ≡ y
      unkept_is z q (inl e) = e
      unkept_is z q (inr s) = absurd (false≢true (sym q ∙ s))

      by : IsOnly k xs y → ⊥
      by o = n (unkept_is c (only_of k (take i xs) c is).unkept (o.others c c_in) ∙ sym (unkept_is x h (o.others x x_in)))

-- where all are kept there is none
pub none_only : (k : Kept) (xs : List ℕ) → AllKept k xs → (y : ℕ) → is_only_unkept k xs y ≡ false
unfolding AllKept
none_only k xs all y = false_by (is_only_unkept k xs y) (λ only. (let o = only_of k xs y only in false≢true (sym o.unkept ∙ all y o.is_in)))

-- there is one at most
pub only_is : (k : Kept) (xs : List ℕ) (c x : ℕ) → is_only_unkept k xs c ≡ true → is_only_unkept k xs x ≡ (c == x)
only_is k xs c x is = by (ℕ_discrete c x)
  where
    unkept_is : IsOnly k xs x → (c ≡ x) ⊎ (keeps_cross k c ≡ true) → c ≡ x
    unkept_is o (inl e) = e
    unkept_is o (inr s) = absurd (false≢true (sym (only_of k xs c is).unkept ∙ s))

    by : Dec (c ≡ x) → is_only_unkept k xs x ≡ (c == x)
    by (yes e) = let t : (c == x) ≡ true = grind (arith, nat_tests) in subst (λ z. is_only_unkept k xs z ≡ true) e is ∙ sym t
    by (no n) = let t : (c == x) ≡ false = grind (arith, nat_tests) in false_by (is_only_unkept k xs x) (λ only. (let o = only_of k xs x only in n (unkept_is o (o.others c (only_of k xs c is).is_in)))) ∙ sym t

-- gains of crosspoints one after the other
pub gains_then : {p q r : ℕ → Bool} {a b c : Kept} → Gains (these_crosses p) a b → Gains (these_crosses q) b c → ((x : ℕ) → r x ≡ (q x || p x)) → Gains (these_crosses r) a c
gains_then {p} {q} {r} {a} g h same = record {
  shape = h.shape ∙ g.shape;
  crosses = λ x. h.crosses x ∙ ap (λ t. q x || t) (g.crosses x) ∙ turned (q x) (p x) (keeps_cross a x) ∙ ap (λ t. t || keeps_cross a x) (sym (same x));
  wires = λ w. h.wires w ∙ g.wires w;
  apart = λ w. h.apart w ∙ g.apart w;
  trial = h.trial ∙ g.trial;
  row = λ w. h.row w ∙ g.row w;
  cells = λ t i. h.cells t i ∙ g.cells t i;
  registers = λ t. h.registers t ∙ g.registers t;
}
  where
    turned : (x y z : Bool) → (x || (y || z)) ≡ ((x || y) || z)
    turned true y z = refl
    turned false y z = refl

pub gains_none : (a : Kept) → Gains (these_crosses (λ _. false)) a a
gains_none a = record { shape = refl; crosses = λ x. refl; wires = λ w. refl; apart = λ w. refl; trial = refl; row = λ w. refl; cells = λ t i. refl; registers = λ t. refl }

pub gains_more : {a b c : Kept} (xs : List ℕ) (i x : ℕ) → i < length xs → slice_get xs i ≡ Some x → Gains (these_crosses (among (take i xs))) a b → Gains (one_cross x) b c → Gains (these_crosses (among (take (i + 1) xs))) a c
gains_more xs i x below at g h = gains_then g h (λ y. more_among xs i x y below at ∙ or_comm (among (take i xs) y) (x == y))

pub none_kept : (k : Kept) → AllKept k []
unfolding AllKept
none_kept k y is = absurd (false≢true is)

-- what was found stays found
pub found_more : (k : Kept) (xs : List ℕ) (i x : ℕ) → i < length xs → slice_get xs i ≡ Some x → keeps_cross k x ≡ true → (found : Option Cross) →
    IfSome found (λ c. is_only_unkept k (take i xs) c.0 ≡ true) → IfSome found (λ c. is_only_unkept k (take (i + 1) xs) c.0 ≡ true)
found_more k xs i x below at kept (Some c) h = only_more k xs i x below at kept c.0 h
found_more k xs i x below at kept None h = tt

pub among_front : (xs : List ℕ) (i y : ℕ) → among (take i xs) y ≡ true → among xs y ≡ true
among_front xs zero y is = absurd (false≢true is)
among_front [] (suc i) y is = absurd (false≢true is)
among_front (x ∷ xs) (suc i) y is = by (first_or_more x y (take i xs) is) (among_front xs i y)
  where
    by : (x ≡ y) ⊎ (among (take i xs) y ≡ true) → (among (take i xs) y ≡ true → among xs y ≡ true) → among (x ∷ xs) y ≡ true
    by (inl e) more = grind (arith, nat_tests)
    by (inr h) more = let m = more h in grind (arith, nat_tests)
