-- When what the combinational tables gave before doesn't matter after some ticks.
use Rattle.std.specs.Prelude.{◌≡◌, ℕ, ◌<◌, ◌≤◌, Bool, true, false, List, length, slice_index, slice_index_or, All}
use Rattle.rig_simulated.specs.{declared.gates.Gate.Gate, Gates.is_low, Gates.IsOutputOf}

-- what a table reads has a lower rank than what it gives, which has the highest at most
pub record IsRanked (rank : ℕ → ℕ) (most : ℕ) (gate : Gate) : Type 0 where
  pub rises : (j : ℕ) → j < 6 → rank (slice_index gate.ins j) < rank gate.out
  pub within : rank gate.out ≤ most

abbrev pub IsRankedOrLatched : (ℕ → ℕ) → ℕ → Gate → Type 0
IsRankedOrLatched rank most gate = gate.setting.latched ≡ false → IsRanked rank most gate

-- no way through combinational tables is longer than this
pub record Settles (gates : List Gate) (ticks : ℕ) : Type 0 where
  pub rank : ℕ → ℕ
  pub ranked : All (IsRankedOrLatched rank ticks) gates

-- the classes of a table are below this
pub record IsWithin (wires : ℕ) (gate : Gate) : Type 0 where
  pub ins : (j : ℕ) → j < 6 → slice_index gate.ins j < wires
  pub out : gate.out < wires

-- two tables are the same but for what they give, and where P holds they give the same
pub record IsTwin (P : Gate → Type 0) (x y : Gate) : Type 0 where
  pub same : y ≡ record x { output = y.output }
  pub gives : P x → y.output ≡ x.output

pub record AreTwins (P : Gate → Type 0) (xs ys : List Gate) : Type 0 where
  pub len : length ys ≡ length xs
  pub each : (k : ℕ) (d : Gate) → k < length xs → IsTwin P (slice_index_or xs k d) (slice_index_or ys k d)

abbrev pub IsLatched : Gate → Type 0
IsLatched gate = gate.setting.latched ≡ true

-- each mark is at a class to which a table gives
abbrev pub AreAtOutputs : List Bool → List Gate → Type 0
AreAtOutputs low gates = (r : ℕ) → is_low low r ≡ true → IsOutputOf gates 0 r
