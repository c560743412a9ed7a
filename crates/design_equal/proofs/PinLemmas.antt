-- Pins: the lane and the pass that spell given bits.
use Rattle.std.proofs.Common.{◌≡◌, ◌⊎◌, ℕ, zero, suc, ◌+◌, ◌-◌, ◌*◌, ◌^◌, ◌<◌, ◌≤◌, ◌==◌, Bool, true, false, List, length, nat_lt, refl, sym, ap, ◌∙◌, inl, inr, arith, if◌then◌else◌}
use native.Mathlib.Numerals.{unary_clauses}
use Rattle.design_equal.proofs.Vocabulary.{cases_lt, le-ltb, is_bit, number_at, Graph, IsValued, pin_bit, AreAt}
use Rattle.std.proofs.lemmas.Nat.Bits.{bit_at-suc, bit_at_lowest}
use Rattle.design_netlist.proofs.BitLemmas.{halved, lowest}

-- the number whose first bits are these
abbrev spelled_by : (ℕ → Bool) → ℕ → ℕ
spelled_by f zero = 0
spelled_by f (suc n) = (if f 0 then 1 else 0) + 2 * spelled_by (λ p. f (suc p)) n

spelled_bit : (n : ℕ) (f : ℕ → Bool) (p : ℕ) → p < n → is_bit (spelled_by f n) p ≡ f p
spelled_bit zero f p lp = absurd (omega arith)
spelled_bit (suc n) f zero lp = ap (λ m. m == 1) (bit_at_lowest (spelled_by f (suc n))) ∙ lowest (f 0) (spelled_by (λ p. f (suc p)) n)
spelled_bit (suc n) f (suc p) lp =
    ap (λ m. m == 1) (bit_at-suc (spelled_by f (suc n)) p)
    ∙ ap (λ m. is_bit m p) (halved (f 0) (spelled_by (λ p. f (suc p)) n))
    ∙ spelled_bit n (λ p. f (suc p)) p (omega arith)

spelled_fits : (n : ℕ) (f : ℕ → Bool) → spelled_by f n < 2 ^ n
spelled_fits zero f = omega arith
spelled_fits (suc n) f = let p : 2 ^ suc n ≡ 2 * 2 ^ n = simp unary_clauses (omega arith) in by (f 0) (spelled_by (λ p. f (suc p)) n) p (spelled_fits n (λ p. f (suc p)))
  where
    by : (b : Bool) (m : ℕ) → 2 ^ suc n ≡ 2 * 2 ^ n → m < 2 ^ n → (if b then 1 else 0) + 2 * m < 2 ^ suc n
    by true m p h = omega arith
    by false m p h = omega arith

lane_below : (f : ℕ → Bool) → spelled_by f 6 < 64
lane_below f = let h : spelled_by f 6 < 2 ^ 6 = spelled_fits 6 f in h

low_pin : (pass lane p : ℕ) → p < 6 → pin_bit pass lane p ≡ is_bit lane p
low_pin pass lane zero lp = refl
low_pin pass lane (suc zero) lp = refl
low_pin pass lane (suc (suc zero)) lp = refl
low_pin pass lane (suc (suc (suc zero))) lp = refl
low_pin pass lane (suc (suc (suc (suc zero)))) lp = refl
low_pin pass lane (suc (suc (suc (suc (suc zero))))) lp = refl
low_pin pass lane (suc (suc (suc (suc (suc (suc p)))))) lp = absurd (omega arith)

high_pin : (pass lane p : ℕ) → 6 ≤ p → pin_bit pass lane p ≡ is_bit pass (p - 6)
high_pin pass lane p lp = let e : nat_lt p 6 ≡ false = le-ltb p 6 lp in ap (λ b. if b then is_bit lane p else is_bit pass (p - 6)) e

-- whatever the bits of the pins' nodes, some lane of some pass has them
pub some_lane : (g : Graph) (pins : List ℕ) (bits : ℕ → Bool) → IsValued g bits → (pass : ℕ) × (pass < 2 ^ (length pins - 6)) × (lane : ℕ) × AreAt g pins pass lane bits
some_lane g pins bits valued =
    let low : ℕ → Bool = (λ p. bits (number_at pins p)) in
    let high : ℕ → Bool = (λ p. bits (number_at pins (p + 6))) in
    let lane : ℕ = spelled_by low 6 in
    let pass : ℕ = spelled_by high (length pins - 6) in (
      pass,
      spelled_fits (length pins - 6) high,
      lane,
      record {
        valued = valued;
        within = lane_below low;
        spelled = λ pin lp. by pin lp low high lane pass (λ p l. spelled_bit 6 low p l) (λ p l. spelled_bit (length pins - 6) high p l) refl refl (cases_lt pin 6);
      },
    )
  where
    by : (pin : ℕ) → pin < length pins → (low high : ℕ → Bool) (lane pass : ℕ)
        → ((p : ℕ) → p < 6 → is_bit lane p ≡ low p) → ((p : ℕ) → p < length pins - 6 → is_bit pass p ≡ high p)
        → low pin ≡ bits (number_at pins pin) → high (pin - 6) ≡ bits (number_at pins (pin - 6 + 6))
        → (pin < 6) ⊎ (6 ≤ pin) → bits (number_at pins pin) ≡ pin_bit pass lane pin
    by pin lp low high lane pass lows highs lo hi (inl l) = sym (low_pin pass lane pin l ∙ lows pin l ∙ lo)
    by pin lp low high lane pass lows highs lo hi (inr l) =
        let same : pin - 6 + 6 ≡ pin = omega arith in
        sym (high_pin pass lane pin l ∙ highs (pin - 6) (omega arith) ∙ hi ∙ ap (λ p. bits (number_at pins p)) same)
