-- A whole image and its two tenants: what they share, and when they run apart.
use Rattle.std.specs.Prelude.{◌≡◌, ◌⊎◌, ◌↔◌, ℕ, ◌++◌, Bool, true, List, map, length, take, Some}
use Rattle.std.specs.List.{All}
use Rattle.machine_shape.specs.declared.Shape.{Shape}
use Rattle.machine_meaning.specs.Vocabulary.{Pins, Defects, Faults, IsFaultless}
use Rattle.machine_config.specs.{declared.Setting.Setting, Vocabulary.is_closed, Vocabulary.setting_of, Vocabulary.IsRun}
use Rattle.machine_image.specs.Vocabulary.{ImageValue, drive_of, image_row, Uses}
use Rattle.machine_history.specs.Vocabulary.{History, IsRunOver}
use Rattle.map_network.specs.declared.network.Network.{Network}
use Rattle.place_plan.specs.{declared.plan.Plan.Plan, Plans.FitsInOrder}
use Rattle.place_pair.specs.JointNetworks.{part, joint_network}

-- The closed crosspoints of the whole, its switched-on tables with their settings, its input pins and its output pins are those
-- of the first and those of the second, pins in this order. No wire is used by both, and all three have one number of ticks.
pub record AreTenants (whole first second : ImageValue) : Type 0 where
  pub first_shape : first.config.shape ≡ whole.config.shape
  pub second_shape : second.config.shape ≡ whole.config.shape
  pub closed : (x : ℕ) → (is_closed whole.config x ≡ true) ↔ ((is_closed first.config x ≡ true) ⊎ (is_closed second.config x ≡ true))
  pub tables : (t : ℕ) (s : Setting) → (setting_of whole.config t ≡ Some s)
      ↔ ((setting_of first.config t ≡ Some s) ⊎ (setting_of second.config t ≡ Some s))
  pub inputs : whole.inputs ≡ first.inputs ++ second.inputs
  pub outputs : whole.outputs ≡ first.outputs ++ second.outputs
  pub apart : (w : ℕ) → Uses first w → Uses second w → ⊥
  pub first_ticks : first.config.ticks ≡ whole.config.ticks
  pub second_ticks : second.config.ticks ≡ whole.config.ticks

-- For every list of vectors of the whole, what is read at the tenant's output pins is what the tenant's image alone gives for its
-- part of the vectors, from this bit on.
abbrev pub RunsAsAlone : Faults → (whole tenant : ImageValue) → ℕ → Type 0
RunsAsAlone f whole tenant from = (vectors : List (List Bool)) (reads alone : List Pins) →
    All (λ v. length v ≡ length whole.inputs) vectors →
    IsRun f whole.config (map (drive_of whole) vectors) reads →
    IsRun f tenant.config (map (drive_of tenant) (map (part from (length tenant.inputs)) vectors)) alone →
    map (image_row tenant) reads ≡ map (image_row tenant) alone

-- Neither tenant sees the other: each runs in the whole as it does alone.
pub record StandApart (f : Faults) (whole first second : ImageValue) : Type 0 where
  pub first_alone : RunsAsAlone f whole first 0
  pub second_alone : RunsAsAlone f whole second (length first.inputs)

-- Over a history, what is read in the first n cycles at the tenant's output pins is what the tenant's image gives by itself, on a
-- machine without faults, for its part of the vectors, from this bit on.
abbrev pub RunsAsAloneOver : History → ℕ → (whole tenant : ImageValue) → ℕ → Type 0
RunsAsAloneOver h n whole tenant from = (none : Faults) (vectors : List (List Bool)) (reads alone : List Pins) →
    IsFaultless none → IsRunOver h whole.config (map (drive_of whole) vectors) reads →
    IsRun none tenant.config (map (drive_of tenant) (map (part from (length tenant.inputs)) vectors)) alone →
    map (image_row tenant) (take n reads) ≡ map (image_row tenant) (take n alone)

-- a pin for each input and output of the network
pub record HasPinsOf (n : Network) (i : ImageValue) : Type 0 where
  pub inputs : length i.inputs ≡ n.inputs
  pub outputs : length i.outputs ≡ length n.outputs

-- the in-order plan of the two networks' joint network fits the list
abbrev pub HaveRoom : Shape → Defects → Network → Network → Type 0
HaveRoom m d n o = (p : Plan) × FitsInOrder m d (joint_network n o) p
