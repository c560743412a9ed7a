-- What marks gain, as those of a field of a part of the machine.
use Rattle.std.specs.Prelude.{◌≡◌, ℕ, ◌+◌, ◌<◌, ◌≤◌, Bool, true, Some, List, length, slice_get}
use Rattle.base_bits.specs.Numbers.{has_number, size_of}
use Rattle.machine_shape.specs.declared.Wire.{Wire}

-- what was marked still is, and so is each of these numbers; no more than so many are new
pub record Gets (these : ℕ → Type 0) (most : ℕ) (old new : List Bool) : Type 0 where
  pub len : length new ≡ length old
  pub stays : (x : ℕ) → has_number old x ≡ true → has_number new x ≡ true
  pub all : (x : ℕ) → these x → has_number new x ≡ true
  pub few : size_of new ≤ size_of old + most

-- one of the first n of these wires
pub record IsWireBefore (ws : List Wire) (n w : ℕ) : Type 0 where
  pub place : ℕ
  pub wire : Wire
  pub early : place < n
  pub here : slice_get ws place ≡ Some wire
  pub is : wire.0 ≡ w
