-- Numbers of ascending wires.
use Rattle.std.proofs.Common.{◌≡◌, ◌≢◌, ◌⊎◌, ℕ, ◌+◌, ◌<◌, All, AllPairs, List, length, get_or, set, sym, ap, ◌∙◌, inl, inr, arith}
use Rattle.place_repair.proofs.Vocabulary.{cases_eq, get_or-set_same, get_or-set_other, length-set, nth_of, AreNumbersTo}

pub numbers_none : (ws ns : List ℕ) → AreNumbersTo 0 ws ns
numbers_none ws ns = record { each = λ k l. absurd (none k l) }
  where
    none : (k : ℕ) → k < 0 → ⊥
    none k l = omega arith

pub numbers_more : (ws ns : List ℕ) (k : ℕ) → k < length ws → AllPairs (λ v w. v < w) ws → All (λ w. w < length ns) ws → AreNumbersTo k ws ns → (length (set ns (nth_of ws k) k) ≡ length ns) × AreNumbersTo (k + 1) ws (set ns (nth_of ws k) k)
numbers_more ws ns k l up within are = (length-set ns (nth_of ws k) k, record { each = λ j h. by j h (cases_eq j k) })
  where
    other : (j : ℕ) → j < k → nth_of ws j ≢ nth_of ws k
    other j h e = (let lt = up j k 0 h l in absurd (omega (arith, lt, e)))

    by : (j : ℕ) → j < k + 1 → (j ≡ k) ⊎ (j ≢ k) → get_or (set ns (nth_of ws k) k) (nth_of ws j) 0 ≡ j
    by j h (inl e) = ap (λ z. get_or (set ns (nth_of ws k) k) (nth_of ws z) 0) e ∙ get_or-set_same ns (nth_of ws k) k 0 (within k 0 l) ∙ sym e
    by j h (inr ne) = let before : j < k = omega (arith, h, ne) in get_or-set_other ns (nth_of ws k) (nth_of ws j) k 0 (other j before) ∙ are.each j before
