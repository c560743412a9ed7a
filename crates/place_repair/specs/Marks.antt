-- Marks on numbers.
use Rattle.std.specs.Prelude.{◌≡◌, ◌⊎◌, ℕ, ◌<◌, Bool, true, false, List, length, slice_index_or}

-- the number has a mark
abbrev pub HasMark : List Bool → ℕ → Type 0
HasMark marks w = slice_index_or marks w false ≡ true

-- The numbers that are claimed get marks. Of the others nothing changes.
pub record IsMarked (claims : ℕ → Type 0) (old new : List Bool) : Type 0 where
  pub sized : length new ≡ length old
  pub only : (w : ℕ) → HasMark new w → HasMark old w ⊎ claims w
  pub each : (w : ℕ) → claims w → HasMark new w
  pub kept : (w : ℕ) → HasMark old w → HasMark new w

-- so many numbers, and marks on those that have P
pub record AreMarks (n : ℕ) (P : ℕ → Type 0) (marks : List Bool) : Type 0 where
  pub sized : length marks ≡ n
  pub only : (w : ℕ) → HasMark marks w → P w
  pub each : (w : ℕ) → P w → HasMark marks w

abbrev pub IsThis : ℕ → ℕ → Type 0
IsThis k w = k ≡ w

-- one of the first claims the number
abbrev pub IsOfFirst : {X : Type 0} → (X → ℕ → Type 0) → X → List X → ℕ → ℕ → Type 0
IsOfFirst claims d xs n w = (j : ℕ) × (j < n) × claims (slice_index_or xs j d) w
