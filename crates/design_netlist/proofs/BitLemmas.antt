-- Bits as numbers, the lowest bit of a number, and the number without it.
use Rattle.std.proofs.Common.{◌≡◌, ℕ, zero, suc, ◌<◌, ◌+◌, ◌*◌, ◌/◌, ◌%◌, ◌==◌, Bool, true, false, ap, arith, if◌then◌else◌}

pub halved : (b : Bool) (n : ℕ) → ((if b then 1 else 0) + 2 * n) / 2 ≡ n
halved true n = omega arith
halved false n = omega arith

pub lowest : (b : Bool) (n : ℕ) → (((if b then 1 else 0) + 2 * n) % 2 == 1) ≡ b
lowest true n = let e : (1 + 2 * n) % 2 ≡ 1 = omega arith in ap (λ m. m == 1) e
lowest false n = let e : (0 + 2 * n) % 2 ≡ 0 = omega arith in ap (λ m. m == 1) e

-- what holds of 0 and 1 holds of each two bits
pub two_bits : (P : ℕ → ℕ → Type 0) → P 0 0 → P 0 1 → P 1 0 → P 1 1 → (p q : ℕ) → p < 2 → q < 2 → P p q
two_bits P oo ol lo ll zero zero lp lq = oo
two_bits P oo ol lo ll zero (suc zero) lp lq = ol
two_bits P oo ol lo ll (suc zero) zero lp lq = lo
two_bits P oo ol lo ll (suc zero) (suc zero) lp lq = ll
two_bits P oo ol lo ll (suc (suc p)) q lp lq = absurd (omega arith)
two_bits P oo ol lo ll p (suc (suc q)) lp lq = absurd (omega arith)

-- what holds of six places holds of each below 6
pub six_places : (P : ℕ → Type 0) → P 0 → P 1 → P 2 → P 3 → P 4 → P 5 → (p : ℕ) → p < 6 → P p
six_places P a b c d e f zero l = a
six_places P a b c d e f (suc zero) l = b
six_places P a b c d e f (suc (suc zero)) l = c
six_places P a b c d e f (suc (suc (suc zero))) l = d
six_places P a b c d e f (suc (suc (suc (suc zero)))) l = e
six_places P a b c d e f (suc (suc (suc (suc (suc zero))))) l = f
six_places P a b c d e f (suc (suc (suc (suc (suc (suc p)))))) l = absurd (omega arith)
