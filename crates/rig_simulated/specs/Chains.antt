-- The pins of each class.
use Rattle.std.specs.Prelude.{◌≡◌, ℕ, ◌-◌, ◌<◌, ◌≤◌, List, length, slice_index}

-- one more than the last of the first n pins that is in the class, and 0 where none is
pub record IsLast (pins : List ℕ) (n class place : ℕ) : Type 0 where
  pub within : place ≤ n
  pub here : 0 < place → slice_index pins (place - 1) ≡ class
  pub behind : (k : ℕ) → k < n → slice_index pins k ≡ class → k < place

-- of each class that has pins its last one, and of each pin the one of its class before it
pub record AreChained (pins last before : List ℕ) : Type 0 where
  pub last_is : (k : ℕ) → k < length pins → IsLast pins (length pins) (slice_index pins k) (slice_index last (slice_index pins k))
  pub before_is : (k : ℕ) → k < length pins → IsLast pins k (slice_index pins k) (slice_index before k)

-- what is kept of any class is no place behind so many pins
abbrev pub AreWithin : List ℕ → ℕ → Type 0
AreWithin last n = (r : ℕ) → slice_index last r ≤ n
