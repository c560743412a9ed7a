-- What is tried for each number below a bound.
use Rattle.cmd_bench.proofs.Vocabulary.{◌≡◌, ℕ, zero, suc, ◌<◌, Bool, true, false, cond, refl, arith, false≢true}

abbrev pub tried : (ℕ → Bool) → ℕ → Bool
tried p zero = true
tried p (suc n) = cond (p 0) (tried (λ k. p (suc k)) n) false

first : (b c : Bool) → cond b c false ≡ true → b ≡ true
first true c e = refl
first false c e = absurd (false≢true e)

others : (b c : Bool) → cond b c false ≡ true → c ≡ true
others true c e = e
others false c e = absurd (false≢true e)

pub each_below : (n : ℕ) (p : ℕ → Bool) → tried p n ≡ true → (k : ℕ) → k < n → p k ≡ true
each_below zero p e k less = absurd (omega arith)
each_below (suc n) p e zero less = first (p 0) _ e
each_below (suc n) p e (suc k) less = each_below n (λ j. p (suc j)) (others (p 0) _ e) k (omega arith)
