-- Addresses in which pins are turned.
use Rattle.std.specs.Prelude.{◌≡◌, ◌<◌, ℕ, List, Bool, not, length}
use Rattle.map_network.specs.Rows.{cell_at}
use Rattle.map_eval.specs.{declared.pins.Pin.Pin, Pins.pin_at, Pins.pin_of, Pins.IsAmong, Marks.number_at}

-- addresses of six bits
abbrev pub AreLow : List ℕ → Type 0
AreLow addresses = (t : ℕ) → t < length addresses → number_at addresses t < 64

-- pins of tables that have an address
abbrev pub ArePinsIn : ℕ → List Pin → Type 0
ArePinsIn count pins = (k : ℕ) → k < length pins → (t p : ℕ) × (t < count) × (p < 6) × (pin_at pins k ≡ pin_of t p)

-- the first m pins are turned, and nothing else
pub record AreTurned (pins : List Pin) (m : ℕ) (old new : List ℕ) : Type 0 where
  pub len : length new ≡ length old
  pub low : AreLow new
  pub turned : (t p : ℕ) → t < length old → p < 6 → IsAmong pins m t p → cell_at (number_at new t) p ≡ not (cell_at (number_at old t) p)
  pub same : (t p : ℕ) → t < length old → p < 6 → (IsAmong pins m t p → ⊥) → cell_at (number_at new t) p ≡ cell_at (number_at old t) p
  pub others : (t : ℕ) → ((p : ℕ) → p < 6 → IsAmong pins m t p → ⊥) → number_at new t ≡ number_at old t
