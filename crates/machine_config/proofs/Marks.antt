-- A number with one bit set, and marks with one set.
use Rattle.std.proofs.Common.{◌≡◌, ◌≢◌, ℕ, ◌+◌, ◌%◌, ◌^◌, ◌<◌, Bool, true, false, List, length, set, refl, sym, ap, ◌∙◌, arith, bit_xor, ◌==◌, if◌then◌else◌}
use Rattle.std.specs.Int.{bit_at}
use Rattle.machine_config.proofs.Vocabulary.{get_or-set_same, get_or-set_other, nat_tests, with_bit, has_mark}
use Rattle.std.proofs.lemmas.Nat.Bits.{bit_at_xor, bit_at-pow_other, bit_at-pow_same, bit_at-lt}
use native.Mathlib.Decide.{ℕ_discrete}

-- with one bit turned, the others are alike
pub bit_alike : (n a y : ℕ) → y ≢ a → bit_at (bit_xor n (2 ^ a)) y ≡ bit_at n y
bit_alike n a y h = bit_at_xor n (2 ^ a) y ∙ rw bit_at-pow_other (let low = bit_at-lt n y in omega (arith, low))

bit_turned : (n a : ℕ) → bit_at (bit_xor n (2 ^ a)) a ≡ (bit_at n a + 1) % 2
bit_turned n a = bit_at_xor n (2 ^ a) a ∙ ap (λ k. (bit_at n a + k) % 2) (bit_at-pow_same a)

other_bit : (b : Bool) (n a y : ℕ) → y ≢ a → (bit_at (with_bit n a b) y == 1) ≡ (bit_at n y == 1)
other_bit b n a y h = by_bit b (bit_at n a == 1)
  where
    either_way : (c : Bool) → (bit_at (if c then n else bit_xor n (2 ^ a)) y == 1) ≡ (bit_at n y == 1)
    either_way true = refl
    either_way false = ap (λ k. k == 1) (bit_alike n a y h)

    other_way : (c : Bool) → (bit_at (if c then bit_xor n (2 ^ a) else n) y == 1) ≡ (bit_at n y == 1)
    other_way true = ap (λ k. k == 1) (bit_alike n a y h)
    other_way false = refl

    by_bit : (b c : Bool) → (bit_at (with_bit n a b) y == 1) ≡ (bit_at n y == 1)
    by_bit true c = either_way (bit_at n a == 1)
    by_bit false c = other_way (bit_at n a == 1)

same_bit : (b : Bool) (n a : ℕ) → (bit_at (with_bit n a b) a == 1) ≡ b
same_bit true n a = on (bit_at n a == 1) refl
  where
    on : (c : Bool) → (bit_at n a == 1) ≡ c → (bit_at (if c then n else bit_xor n (2 ^ a)) a == 1) ≡ true
    on true e = e
    on false e = let low = bit_at-lt n a in let turn = bit_turned n a in grind (arith, nat_tests, low, turn)
same_bit false n a = off (bit_at n a == 1) refl
  where
    off : (c : Bool) → (bit_at n a == 1) ≡ c → (bit_at (if c then bit_xor n (2 ^ a) else n) a == 1) ≡ false
    off true e = let low = bit_at-lt n a in let turn = bit_turned n a in grind (arith, nat_tests, low, turn)
    off false e = e

pub tested_same : (a : ℕ) → (a == a) ≡ true
tested_same a = grind (arith, nat_tests)

pub tested_other : (a b : ℕ) → a ≢ b → (a == b) ≡ false
tested_other a b n = grind (arith, nat_tests, n)

-- the bit that was set is as it was set, and the others are as they were
pub bit_after : (n a y : ℕ) (b : Bool) → (bit_at (with_bit n a b) y == 1) ≡ (if y == a then b else bit_at n y == 1)
bit_after n a y b = by_place (ℕ_discrete y a)
  where
    by_place : Dec (y ≡ a) → (bit_at (with_bit n a b) y == 1) ≡ (if y == a then b else bit_at n y == 1)
    by_place (yes e) = rw (e, tested_same) (same_bit b n a)
    by_place (no h) = other_bit b n a y h ∙ sym (ap (λ t. if t then b else bit_at n y == 1) (tested_other y a h))

-- and so with marks
pub mark_after : (marks : List Bool) (c q : ℕ) (b : Bool) → c < length marks → has_mark (set marks c b) q ≡ (if q == c then b else has_mark marks q)
mark_after marks c q b h = by_place (ℕ_discrete q c)
  where
    by_place : Dec (q ≡ c) → has_mark (set marks c b) q ≡ (if q == c then b else has_mark marks q)
    by_place (yes e) = ap (has_mark (set marks c b)) e ∙ get_or-set_same marks c b false h ∙ sym (ap (λ t. if t then b else has_mark marks q) (ap (λ k. k == c) e ∙ tested_same c))
    by_place (no n) = get_or-set_other marks c q b false n ∙ sym (ap (λ t. if t then b else has_mark marks q) (tested_other q c n))
