-- What tables gave some ticks before, and give again.
use Rattle.std.specs.Prelude.{◌≡◌, ℕ, ◌+◌, ◌<◌, Bool, List, length, map, slice_index_or}
use Rattle.machine_meaning.specs.Faults.{Faults}
use Rattle.rig_simulated.specs.{declared.classes.ClassNode.ClassNode, declared.gates.Gate.Gate, declared.past.Past.Past, Cycles.HaveTicked}

abbrev pub given_by : Gate → Bool
given_by gate = gate.output

-- the first outputs are what the tables give
pub record AreGiven (n : ℕ) (gates : List Gate) (outputs : List Bool) : Type 0 where
  pub len : length outputs ≡ length gates
  pub each : (k : ℕ) (b : Bool) (d : Gate) → k < n → slice_index_or outputs k b ≡ (slice_index_or gates k d).output

-- the first ticks led to tables that gave what is kept, and the others from these to what they are now
pub record HasCome (f : Faults) (knots : List ClassNode) (low_pins : List Bool) (first : List Gate) (p : Past) (made : ℕ)
    (now : List Gate) : Type 0 where
  pub tables : List Gate
  pub since : ℕ
  pub led : HaveTicked f knots low_pins first p.at tables
  pub on : HaveTicked f knots low_pins tables since now
  pub count : p.at + since ≡ made
  pub outputs : p.outputs.items ≡ map given_by tables

-- so it is if something is kept
abbrev pub HasComeIfKept : Faults → List ClassNode → List Bool → List Gate → Past → ℕ → List Gate → Type 0
HasComeIfKept f knots low_pins first p made now = 0 < p.at → HasCome f knots low_pins first p made now

-- whatever ticks led here, what is kept is theirs
abbrev pub KeepsPast : Past → Past → ℕ → List Gate → Type 0
KeepsPast old new made now = (f : Faults) (knots : List ClassNode) (low_pins : List Bool) (first : List Gate) →
    HaveTicked f knots low_pins first made now → HasComeIfKept f knots low_pins first old made now →
    HasComeIfKept f knots low_pins first new made now

-- whatever ticks led here, where those that are left lead, there all do
abbrev pub SkipsTicks : Past → ℕ → ℕ → ℕ → List Gate → Type 0
SkipsTicks p made ticks left now = (f : Faults) (knots : List ClassNode) (low_pins : List Bool) (first end : List Gate) →
    HaveTicked f knots low_pins first made now → HasComeIfKept f knots low_pins first p made now →
    HaveTicked f knots low_pins now left end → HaveTicked f knots low_pins first ticks end
