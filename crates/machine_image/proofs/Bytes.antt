-- Numbers in bytes, the highest first.
use Rattle.std.proofs.Common.{◌≡◌, ℕ, zero, suc, ◌+◌, ◌-◌, ◌^◌, ◌<◌, ◌≤◌, List, [], ◌∷◌, ◌++◌, length, drop, get_or, refl, sym, ap, ◌∙◌, arith}
use Rattle.std.specs.Int.{w64, from_be_bytes, bytes_high_first}
use Rattle.machine_image.proofs.Vocabulary.{drop_more, drop_at, drop-drop, length-append, length-drop, big_bytes, big_from, Stands}
use Rattle.std.proofs.lemmas.Nat.{be_bytes_8}
use Rattle.byteorder.specs.Numbers.{big_number-reads_back, length-bytes_high_first}

next : (xs : List ℕ) (i j : ℕ) → i < length xs → j ≡ i + 1 → drop i xs ≡ get_or xs i 0 ∷ drop j xs
next xs i j h e = drop_more xs i 0 h ∙ ap (λ k. get_or xs i 0 ∷ drop k xs) (sym e)

module _ (xs : List ℕ) (at n : ℕ) (h : at + 8 ≤ length xs) (small : (i : ℕ) → get_or xs i 0 < 256) where
  abbrev b : ℕ → ℕ
  b k = get_or xs (at + k) 0

  abbrev pub eight : List ℕ
  eight = get_or xs at 0 ∷ get_or xs (at + 1) 0 ∷ get_or xs (at + 2) 0 ∷ get_or xs (at + 3) 0 ∷ get_or xs (at + 4) 0 ∷ get_or xs (at + 5) 0 ∷ get_or xs (at + 6) 0 ∷ get_or xs (at + 7) 0 ∷ []

  cut_eight : drop at xs ≡ eight ++ drop (at + 8) xs
  cut_eight =
      next xs at (at + 1) (omega arith) refl
      ∙ ap (λ r. get_or xs at 0 ∷ r) (next xs (at + 1) (at + 2) (omega arith) (omega arith)
      ∙ ap (λ r. b 1 ∷ r) (next xs (at + 2) (at + 3) (omega arith) (omega arith)
      ∙ ap (λ r. b 2 ∷ r) (next xs (at + 3) (at + 4) (omega arith) (omega arith)
      ∙ ap (λ r. b 3 ∷ r) (next xs (at + 4) (at + 5) (omega arith) (omega arith)
      ∙ ap (λ r. b 4 ∷ r) (next xs (at + 5) (at + 6) (omega arith) (omega arith)
      ∙ ap (λ r. b 5 ∷ r) (next xs (at + 6) (at + 7) (omega arith) (omega arith)
      ∙ ap (λ r. b 6 ∷ r) (next xs (at + 7) (at + 8) (omega arith) (omega arith))))))))

  small_eight : (i : ℕ) → get_or eight i 0 < 256
  small_eight zero = small at
  small_eight (suc zero) = small (at + 1)
  small_eight (suc (suc zero)) = small (at + 2)
  small_eight (suc (suc (suc zero))) = small (at + 3)
  small_eight (suc (suc (suc (suc zero)))) = small (at + 4)
  small_eight (suc (suc (suc (suc (suc zero))))) = small (at + 5)
  small_eight (suc (suc (suc (suc (suc (suc zero)))))) = small (at + 6)
  small_eight (suc (suc (suc (suc (suc (suc (suc zero))))))) = small (at + 7)
  small_eight (suc (suc (suc (suc (suc (suc (suc (suc i)))))))) = omega arith

  pub eight_stand : n ≡ from_be_bytes w64 eight → drop at xs ≡ bytes_high_first 8 n ++ drop (at + 8) xs
  eight_stand e = cut_eight ∙ ap (λ bs. bs ++ drop (at + 8) xs) (sym (be_bytes_8 eight n refl small_eight e))

-- ---- one number stands at a place

module _ (size n : ℕ) (bytes more : List ℕ) (at : ℕ) (some : 0 < size) (small : n < 256 ^ size) (text : drop at bytes ≡ big_bytes size n ++ more) where
  pub behind_number : drop (at + size) bytes ≡ more
  behind_number = sym (drop-drop size at bytes) ∙ ap (drop size) text ∙ drop_at (big_bytes size n) more size (length-bytes_high_first size n)

  pub number_within : at + size ≤ length bytes
  number_within = by_size (length-drop at bytes) (ap length text ∙ length-append (big_bytes size n) more ∙ ap (λ k. k + length more) (length-bytes_high_first size n))
    where
      by_size : length (drop at bytes) ≡ length bytes - at → length (drop at bytes) ≡ size + length more → at + size ≤ length bytes
      by_size a b = omega (arith, a, b, some)

  pub same_number : (k : ℕ) → Stands size k bytes at → k ≡ n
  same_number k s =
      sym (big_number-reads_back size k (drop (at + size) bytes) s.0)
      ∙ ap (big_from 0 size) (sym s.1 ∙ text)
      ∙ big_number-reads_back size n more small
