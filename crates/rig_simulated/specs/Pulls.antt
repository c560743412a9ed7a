-- How many tables pull each class.
use Rattle.std.specs.Prelude.{◌≡◌, ℕ, ◌<◌, Bool, not, ◌==◌, ◌&&◌, nat_lt, List, length, slice_index, slice_index_or, slice_set}
use Rattle.std.specs.List.{count_by}
use Rattle.rig_simulated.specs.{declared.gates.Gate.Gate, Gates.is_low}

-- whether a table gives 0 to a class
abbrev pub pulls_to : ℕ → Gate → Bool
pulls_to r gate = (gate.out == r) && not gate.output

-- the tables that pull each class are counted, and each class that one pulls has a mark
pub record AreCounted (gates : List Gate) (pulls : List ℕ) (low : List Bool) : Type 0 where
  pub len : length low ≡ length pulls
  pub counts : (r : ℕ) → r < length pulls → slice_index pulls r ≡ count_by (pulls_to r) gates
  pub marks : (r : ℕ) → r < length pulls → is_low low r ≡ nat_lt 0 (slice_index pulls r)

abbrev pub AreZero : List ℕ → Type 0
AreZero pulls = (r : ℕ) → slice_index pulls r ≡ 0

abbrev pub giving : Bool → Gate → Gate
giving output gate = record gate { output = output }

-- the table at a place gives this now
abbrev pub HasGiven : ℕ → Bool → List Gate → List Gate → Type 0
HasGiven place output old new = (d : Gate) → new ≡ slice_set old place (giving output (slice_index_or old place d))
