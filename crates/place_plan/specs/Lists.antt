-- Ascending lists of just those numbers that have a property.
use Rattle.std.specs.Prelude.{◌≡◌, ℕ, ◌<◌, List, [], length, slice_index_or}
use Rattle.std.specs.List.{All, AllPairs, Contains}

-- the numbers that have P, ascending
pub record AreThose (P : ℕ → Type 0) (ks : List ℕ) : Type 0 where
  pub ascending : AllPairs (λ a b. a < b) ks
  pub only : All P ks
  pub each : (k : ℕ) → P k → Contains ks k

-- the number at a place of a list
abbrev pub nth_of : List ℕ → ℕ → ℕ
nth_of ks j = slice_index_or ks j 0

-- the number at the place is k
abbrev pub IsNth : List ℕ → ℕ → ℕ → Type 0
IsNth ks j k = (j < length ks) × (slice_index_or ks j 0 ≡ k)

-- each of the first lists has those numbers
pub record AreLists (count : ℕ) (P : ℕ → ℕ → Type 0) (lists : List (List ℕ)) : Type 0 where
  pub sized : length lists ≡ count
  pub those : (n : ℕ) → n < count → AreThose (P n) (slice_index_or lists n [])

-- the number is among the first k of these, and has P
abbrev pub IsAmongFirst : (ℕ → ℕ) → ℕ → (ℕ → Type 0) → ℕ → Type 0
IsAmongFirst f k P w = ((j : ℕ) × (j < k) × (w ≡ f j)) × P w

abbrev pub same_number : ℕ → ℕ
same_number k = k
