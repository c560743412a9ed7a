-- What is closed besides the routes.
use Rattle.std.proofs.Common.{◌≡◌, ◌⊎◌, ◌<◌, ◌+◌, ◌++◌, ◌%◌, ◌/◌, ℕ, zero, suc, Bool, true, false, Some, Option, List, [], ◌∷◌, length, get_or, refl, sym, ap, ◌∙◌, subst, inl, inr, arith, ◌==◌, ◌||◌, unwrap_or, slice_get}
use Rattle.diag_growth.proofs.Vocabulary.{false≢true, or_cases, or_left, or_right, nat_tests, Cross, among, cross_numbers, Arm, Seat}
use native.Mathlib.Decide.{dec_lt}
use Rattle.diag_growth.specs.Ties.{halves, bit_of, IsSeatTie, to_output, on_arm, AreSeatTies}

pub in_one : (x w : ℕ) → among (x ∷ []) w ≡ true → x ≡ w
in_one x w e = grind (arith, nat_tests)

pub one_in : (x w : ℕ) → x ≡ w → among (x ∷ []) w ≡ true
one_in x w e = grind (arith, nat_tests)

number_of_test : (x y : ℕ) → (x == y) ≡ true → x ≡ y
number_of_test x y e = grind (arith, nat_tests)

test_of_number : (x y : ℕ) → x ≡ y → (x == y) ≡ true
test_of_number x y e = grind (arith, nat_tests)

-- a data type's member at one place alone
one_value : {X : Type 0} {o : Option X} {a b : X} → o ≡ Some a → o ≡ Some b → a ≡ b
one_value {a = a} p q = ap (λ o. unwrap_or o a) (sym p ∙ q)

pub halves_next : (a j : ℕ) → halves a (j + 1) ≡ halves a j / 2
halves_next a j = ap (halves a) (let e : j + 1 ≡ suc j = omega arith in e)

pub lt_or : (i j : ℕ) → i < j + 1 → (i < j) ⊎ (i ≡ j)
lt_or i j below = by (dec_lt i j)
  where
    by : Dec (i < j) → (i < j) ⊎ (i ≡ j)
    by (yes h) = inl h
    by (no h) = inr (omega arith)

-- a list into which the output's crosspoint alone was pushed
output_alone : (s : Seat) (empty ties : List Cross) → empty ≡ [] → ties ≡ empty ++ s.output ∷ [] → cross_numbers ties ≡ s.output.0 ∷ []
output_alone s empty ties none e = ap cross_numbers (e ∙ ap (λ xs. xs ++ s.output ∷ []) none)

-- the output alone, at first
ties_first : (s : Seat) (bits : ℕ → Bool) → AreSeatTies s bits 0 (among (s.output.0 ∷ []))
ties_first s bits = record { only = λ c is. to_output (in_one s.output.0 c is); all = λ c h. by c h }
  where
    by : (c : ℕ) → IsSeatTie s bits 0 c → among (s.output.0 ∷ []) c ≡ true
    by c (to_output e) = one_in s.output.0 c e
    by c (on_arm j a below at low is) = absurd (omega arith)

-- and in the end, where no bit is 0
ties_output : (s : Seat) → AreSeatTies s (λ _. true) 6 (among (s.output.0 ∷ []))
ties_output s = record { only = λ c is. to_output (in_one s.output.0 c is); all = λ c h. by c h }
  where
    by : (c : ℕ) → IsSeatTie s (λ _. true) 6 c → among (s.output.0 ∷ []) c ≡ true
    by c (to_output e) = one_in s.output.0 c e
    by c (on_arm j a below at low is) = absurd (false≢true (sym low))

pub first_of : (s : Seat) (bits : ℕ → Bool) (empty ties : List Cross) → empty ≡ [] → ties ≡ empty ++ s.output ∷ [] → AreSeatTies s bits 0 (among (cross_numbers ties))
first_of s bits empty ties none e = subst (λ xs. AreSeatTies s bits 0 (among xs)) (sym (output_alone s empty ties none e)) (ties_first s bits)

pub output_of : (s : Seat) (empty ties : List Cross) → empty ≡ [] → ties ≡ empty ++ s.output ∷ [] → AreSeatTies s (λ _. true) 6 (among (cross_numbers ties))
output_of s empty ties none e = subst (λ xs. AreSeatTies s (λ _. true) 6 (among xs)) (sym (output_alone s empty ties none e)) (ties_output s)

-- one input more
module _ (s : Seat) (bits : ℕ → Bool) (j : ℕ) (a : Arm) (at : slice_get s.arms.items j ≡ Some a) (old new : ℕ → Bool) (is : AreSeatTies s bits j old) where
  later : (c : ℕ) → IsSeatTie s bits j c → IsSeatTie s bits (j + 1) c
  later c (to_output e) = to_output e
  later c (on_arm i b below here_ low h) = on_arm i b (omega arith) here_ low h

  low_next : bits j ≡ false → ((c : ℕ) → new c ≡ ((old c || (a.to_line.0 == c)) || (a.to_input.0 == c))) → AreSeatTies s bits (j + 1) new
  low_next low e = record { only = λ c on. split c (or_cases (old c || (a.to_line.0 == c)) (a.to_input.0 == c) (sym (e c) ∙ on)); all = λ c h. e c ∙ whole c h }
    where
      arm : (c : ℕ) → (a.to_line.0 ≡ c) ⊎ (a.to_input.0 ≡ c) → IsSeatTie s bits (j + 1) c
      arm c h = on_arm j a (omega arith) at low h

      first : (c : ℕ) → (old c ≡ true) ⊎ ((a.to_line.0 == c) ≡ true) → IsSeatTie s bits (j + 1) c
      first c (inl h) = later c (is.only c h)
      first c (inr h) = arm c (inl (number_of_test a.to_line.0 c h))

      split : (c : ℕ) → ((old c || (a.to_line.0 == c)) ≡ true) ⊎ ((a.to_input.0 == c) ≡ true) → IsSeatTie s bits (j + 1) c
      split c (inl h) = first c (or_cases (old c) (a.to_line.0 == c) h)
      split c (inr h) = arm c (inr (number_of_test a.to_input.0 c h))

      old_in : (c : ℕ) → old c ≡ true → ((old c || (a.to_line.0 == c)) || (a.to_input.0 == c)) ≡ true
      old_in c h = or_left (old c || (a.to_line.0 == c)) (a.to_input.0 == c) (or_left (old c) (a.to_line.0 == c) h)

      of_arm : (c : ℕ) (b : Arm) → b ≡ a → (b.to_line.0 ≡ c) ⊎ (b.to_input.0 ≡ c) → ((old c || (a.to_line.0 == c)) || (a.to_input.0 == c)) ≡ true
      of_arm c b same (inl h) = or_left (old c || (a.to_line.0 == c)) (a.to_input.0 == c) (or_right (old c) (a.to_line.0 == c) (test_of_number a.to_line.0 c (ap (λ (x : Arm). x.to_line.0) (sym same) ∙ h)))
      of_arm c b same (inr h) = or_right (old c || (a.to_line.0 == c)) (a.to_input.0 == c) (test_of_number a.to_input.0 c (ap (λ (x : Arm). x.to_input.0) (sym same) ∙ h))

      whole : (c : ℕ) → IsSeatTie s bits (j + 1) c → ((old c || (a.to_line.0 == c)) || (a.to_input.0 == c)) ≡ true
      whole c (to_output d) = old_in c (is.all c (to_output d))
      whole c (on_arm i b below here_ bit h) = by (lt_or i j below)
        where
          by : (i < j) ⊎ (i ≡ j) → ((old c || (a.to_line.0 == c)) || (a.to_input.0 == c)) ≡ true
          by (inl less) = old_in c (is.all c (on_arm i b less here_ bit h))
          by (inr same) = of_arm c b (one_value (subst (λ n. slice_get s.arms.items n ≡ Some b) same here_) at) h

  high_next : bits j ≡ true → ((c : ℕ) → new c ≡ old c) → AreSeatTies s bits (j + 1) new
  high_next high e = record { only = λ c on. later c (is.only c (sym (e c) ∙ on)); all = λ c h. e c ∙ whole c h }
    where
      whole : (c : ℕ) → IsSeatTie s bits (j + 1) c → old c ≡ true
      whole c (to_output d) = is.all c (to_output d)
      whole c (on_arm i b below here_ bit h) = by (lt_or i j below)
        where
          by : (i < j) ⊎ (i ≡ j) → old c ≡ true
          by (inl less) = is.all c (on_arm i b less here_ bit h)
          by (inr same) = absurd (false≢true (sym (subst (λ n. bits n ≡ false) same bit) ∙ high))

-- by what was pushed for the input
pub ties_next : (s : Seat) (address j rest : ℕ) (a : Arm) (old new : ℕ → Bool) → slice_get s.arms.items j ≡ Some a → rest ≡ halves address j →
    ((rest % 2 == 1) ≡ false → (c : ℕ) → new c ≡ ((old c || (a.to_line.0 == c)) || (a.to_input.0 == c))) → ((rest % 2 == 1) ≡ true → (c : ℕ) → new c ≡ old c) →
    AreSeatTies s (bit_of address) j old → AreSeatTies s (bit_of address) (j + 1) new
ties_next s address j rest a old new at same low high is = by (bit_of address j) refl
  where
    bit : (rest % 2 == 1) ≡ bit_of address j
    bit = ap (λ r. r % 2 == 1) same

    by : (b : Bool) → bit_of address j ≡ b → AreSeatTies s (bit_of address) (j + 1) new
    by false e = low_next s (bit_of address) j a at old new is e (low (bit ∙ e))
    by true e = high_next s (bit_of address) j a at old new is e (high (bit ∙ e))

-- what `xs[i]` gives
pub read_at : {X : Type 0} (xs : List X) (i : ℕ) (x d : X) → i < length xs → x ≡ get_or xs i d → slice_get xs i ≡ Some x
read_at [] i x d below e = absurd (omega arith)
read_at (y ∷ ys) zero x d below e = ap (λ z. Some z) (sym e)
read_at (y ∷ ys) (suc i) x d below e = read_at ys i x d (omega arith) e

or_none : (b : Bool) → (b || false) ≡ b
or_none true = refl
or_none false = refl

or_assoc : (a b c : Bool) → (a || (b || c)) ≡ ((a || b) || c)
or_assoc true b c = refl
or_assoc false b c = refl

push_among : (xs : List Cross) (a : Cross) (c : ℕ) → among (cross_numbers (xs ++ a ∷ [])) c ≡ (among (cross_numbers xs) c || (a.0 == c))
push_among [] a c = or_none (a.0 == c)
push_among (x ∷ xs) a c = ap (λ b. (x.0 == c) || b) (push_among xs a c) ∙ or_assoc (x.0 == c) (among (cross_numbers xs) c) (a.0 == c)

-- two crosspoints more
pub two_pushed : (old mid new : List Cross) (a b : Cross) → mid ≡ old ++ a ∷ [] → new ≡ mid ++ b ∷ [] → (c : ℕ) → among (cross_numbers new) c ≡ ((among (cross_numbers old) c || (a.0 == c)) || (b.0 == c))
two_pushed old mid new a b first second c =
    ap (λ xs. among (cross_numbers xs) c) second ∙ push_among mid b c ∙ ap (λ t. t || (b.0 == c)) (ap (λ xs. among (cross_numbers xs) c) first ∙ push_among old a c)
