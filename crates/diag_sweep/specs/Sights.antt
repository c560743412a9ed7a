-- Numbers that were seen, each for the first time.
use Rattle.std.specs.Prelude.{◌≡◌, ℕ, ◌<◌, ◌==◌, Bool, true, List, ◌++◌, All, length}
use Rattle.std.specs.List.{IsDistinct}
use Rattle.base_bits.specs.Numbers.{has_number}
use Rattle.machine_config.specs.Groups.{among}

-- these numbers differ, and those that are marked are these
pub record Seen (marks : List Bool) (numbers : List ℕ) : Type 0 where
  pub once : IsDistinct (λ a b. a == b) numbers
  pub are : (n : ℕ) → among numbers n ≡ true → has_number marks n ≡ true

-- these were seen too
pub record SeesMore (old new : List Bool) (numbers : List ℕ) : Type 0 where
  pub at : (before : List ℕ) → Seen old before → Seen new (before ++ numbers)
