-- What the configurations and drives of tests are.
use Rattle.std.specs.Prelude.{◌≡◌, ◌≢◌, ◌⊎◌, ℕ, ◌<◌, Bool, true, false, Some, None, List, map, slice_index_or}
use Rattle.std.specs.List.{AllByRecursion, range_with_len}
use Rattle.machine_shape.specs.{Shape.Ends, Shape.ends_of, Shape.pin_wire, Shape.table_wire, Shape.pins_of, declared.Shape.Shape}
use Rattle.machine_meaning.specs.Vocabulary.{Faults, stuck_cross, wrong_cell, stuck_register, Joined, Shorted, net_of, IsClear, Pins}
use Rattle.machine_config.specs.{Run.number_of, declared.Setting.Setting, Groups.AreGroups, Route.LeadsTo}
use Rattle.machine_config.specs.Configuration.{Configuration, is_closed, with_open, setting_of}

-- no table is on
abbrev pub AreOff : Configuration → Type 0
AreOff g = (t : ℕ) → setting_of g t ≡ None

-- this pin is driven 0, and no other
pub record IsDrivenAlone (drive : Pins) (k : ℕ) : Type 0 where
  pub low : slice_index_or drive k true ≡ false
  pub alone : (j : ℕ) → slice_index_or drive j true ≡ false → j ≡ k

-- this pin is driven 0, and each pin that is driven 0 is in the group
pub record IsDrivenIn (m : Shape) (drive : Pins) (k : ℕ) (group : ℕ → Bool) : Type 0 where
  pub low : slice_index_or drive k true ≡ false
  pub within : (j : ℕ) → slice_index_or drive j true ≡ false → group (pin_wire m j) ≡ true

-- no pin is driven 0
abbrev pub AreReleased : Pins → Type 0
AreReleased drive = (j : ℕ) → slice_index_or drive j true ≡ true

-- closed crosspoints that aren't stuck lead from the pin to the wire
pub record IsLed (f : Faults) (g : Configuration) (k : ℕ) (xs ws : List ℕ) (e : ℕ) : Type 0 where
  pub leads : LeadsTo g.shape (pin_wire g.shape k) xs ws e
  pub closed : AllByRecursion (λ x. is_closed g x ≡ true) xs
  pub free : AllByRecursion (λ x. stuck_cross f x ≡ None) xs

-- Two groups of wires with a pin each, and a crosspoint between them. With it open they are apart. It isn't stuck,
-- and closed crosspoints that aren't stuck lead from the pins to its two ends.
pub record IsLoop (f : Faults) (g : Configuration) (x : ℕ) (left right : ℕ → Bool) (k l : ℕ) : Type 0 where
  pub off : AreOff g
  pub closed : is_closed g x ≡ true
  pub free : stuck_cross f x ≡ None
  pub groups : AreGroups g.shape f (is_closed (with_open g x)) left right
  pub k_pin : k < pins_of g.shape
  pub l_pin : l < pins_of g.shape
  pub k_left : left (pin_wire g.shape k) ≡ true
  pub l_right : right (pin_wire g.shape l) ≡ true
  pub near : ℕ
  pub far : ℕ
  pub at : Ends (ends_of g.shape x) near far
  pub near_left : left near ≡ true
  pub far_right : right far ≡ true
  pub lefts : List ℕ
  pub left_wires : List ℕ
  pub leads_left : IsLed f (with_open g x) k lefts left_wires near
  pub rights : List ℕ
  pub right_wires : List ℕ
  pub leads_right : IsLed f (with_open g x) l rights right_wires far

-- the wire is shorted to no stuck wire, and to none of either group
pub record IsLoose (m : Shape) (f : Faults) (left right : ℕ → Bool) (w : ℕ) : Type 0 where
  pub clear : IsClear m f w
  pub off_left : (u : ℕ) → left u ≡ true → ¬ Shorted m f w u
  pub off_right : (u : ℕ) → right u ≡ true → ¬ Shorted m f w u

-- One table is on, and its own register doesn't matter. Of its inputs those whose bit is 0 are led to the left pin,
-- and the others are loose. Its output is led to the right pin.
pub record IsCellTest (f : Faults) (g : Configuration) (t a : ℕ) (s : Setting) (left right bits : ℕ → Bool) (k l : ℕ) : Type 0 where
  pub on : setting_of g t ≡ Some s
  pub off : (u : ℕ) → u ≢ t → setting_of g u ≡ None
  pub comb : s.latched ≡ false
  pub init : s.init ≡ true
  pub one : g.ticks ≡ 1
  pub k_pin : k < pins_of g.shape
  pub not_wrong : wrong_cell f t a ≡ None
  pub groups : AreGroups g.shape f (is_closed g) left right
  pub k_left : left (pin_wire g.shape k) ≡ true
  pub l_right : right (pin_wire g.shape l) ≡ true
  pub inputs : (j : ℕ) → j < 6 →
      ((bits j ≡ false) × (left (table_wire g.shape t j) ≡ true)
      × Joined (net_of g.shape f (is_closed g)) (table_wire g.shape t j) (pin_wire g.shape k)) ⊎
      ((bits j ≡ true) × IsLoose g.shape f left right (table_wire g.shape t j))
  pub number : number_of (map bits (range_with_len 0 6)) ≡ a
  pub led : Joined (net_of g.shape f (is_closed g)) (pin_wire g.shape l) (table_wire g.shape t 6)

-- One table is on and latched, and its register isn't stuck. Its output is led to the right pin, and each pin that is
-- driven 0 is in the left group.
pub record IsRegisterTest (f : Faults) (g : Configuration) (t : ℕ) (s : Setting) (left right : ℕ → Bool) (drive : Pins)
    (l : ℕ) : Type 0 where
  pub on : setting_of g t ≡ Some s
  pub off : (u : ℕ) → u ≢ t → setting_of g u ≡ None
  pub latched : s.latched ≡ true
  pub not_stuck : stuck_register f t ≡ None
  pub groups : AreGroups g.shape f (is_closed g) left right
  pub l_right : right (pin_wire g.shape l) ≡ true
  pub quiet : (j : ℕ) → slice_index_or drive j true ≡ false → left (pin_wire g.shape j) ≡ true
  pub led : Joined (net_of g.shape f (is_closed g)) (pin_wire g.shape l) (table_wire g.shape t 6)
