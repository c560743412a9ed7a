-- What is kept of the pins from cycle to cycle.
use Rattle.std.specs.Prelude.{◌≡◌, ℕ, ◌<◌, true, List, Bool, length, slice_index, slice_index_or, All}
use Rattle.machine_meaning.specs.Vocabulary.{Pins}
use Rattle.rig_simulated.specs.{declared.classes.ClassNode.ClassNode, Gates.is_low, Gates.level_of, Chains.AreChained, Chains.AreWithin}
use Rattle.rig_simulated.specs.{declared.driving.KeptPins.KeptPins, Classes.knot_at, Cycles.AreDriven}

-- what a class is while no table pulls it
abbrev pub level_by : List ClassNode → List Bool → ℕ → Bool
level_by knots low r = level_of (knot_at knots r).held (is_low low r)

-- the levels are those of the pins
pub record AreShown (knots : List ClassNode) (pins : List ℕ) (low : List Bool) (levels : Pins) : Type 0 where
  pub len : length levels ≡ length pins
  pub each : (k : ℕ) → k < length pins → slice_index_or levels k true ≡ level_by knots low (slice_index pins k)

-- the pins stand in chains, the marks are those of what they are driven, and the levels those under these marks
pub record IsTracked (knots : List ClassNode) (pins : List ℕ) (low : List Bool) (kept : KeptPins) : Type 0 where
  pub within : All (λ r. r < length knots) pins
  pub marks : length low ≡ length knots
  pub last : length kept.chains.last.items ≡ length knots
  pub few : AreWithin kept.chains.last.items (length pins)
  pub before : length kept.chains.before.items ≡ length pins
  pub chained : AreChained pins kept.chains.last.items kept.chains.before.items
  pub drive : length kept.drive ≡ length pins
  pub driven : AreDriven pins kept.drive low
  pub shown : AreShown knots pins low kept.levels

-- both lists begin with the same bits
abbrev pub AreAlikeBelow : ℕ → Pins → Pins → Type 0
AreAlikeBelow n a b = (k : ℕ) → k < n → slice_index_or a k true ≡ slice_index_or b k true
