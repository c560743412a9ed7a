-- What tests read, and where they are bound to pass. `told` is the faults of the machine, where they are told.
use Rattle.std.specs.Prelude.{◌≡◌, ◌≢◌, ◌↔◌, ◌⊎◌, ℕ, Bool, true, false, Option, Some, None, IsTrue, List, [], ◌∷◌, All, flat_map}
use Rattle.std.specs.Prelude.{slice_index_or, ◌≤◌, ◌+◌, Result, IsErrOf}
use Rattle.base_io.specs.Counts.{Rose}
use Rattle.machine_meaning.specs.Vocabulary.{Pins, Faults}
use Rattle.machine_shape.specs.Shape.{pin_wire}
use Rattle.machine_config.specs.declared.Setting.{Setting}
use Rattle.machine_config.specs.Vocabulary.{Configuration, is_closed, IsRun, AreGroups, among, AreOff, IsLoop, IsCellTest, IsRegisterTest}
use Rattle.machine_config.specs.Vocabulary.{IsDrivenAlone, IsDrivenIn, AreReleased}
use Rattle.rig.specs.{Rig.RigState, Rig.Narrows, Rig.Tells, Rig.config_of, Rig.cycles_of, Rig.drives_of, declared.rig.RigFail.RigFail}
use Rattle.rig.specs.declared.rig.RigFail.TheVariants as work
use Rattle.diag_tests.specs.Routes.{Walk, IsRoute}
use Rattle.diag_evidence.specs.Kept.{Kept, keeps_cross}

-- the session is of this configuration, and made one cycle under each of these drives, in order, and no other
pub record HasCycled (g : Configuration) (drives : List Pins) (rig : RigState) : Type 0 where
  pub config : config_of rig ≡ Some g
  pub cycles : drives_of (cycles_of rig) ≡ drives

-- What at most so many loads leave: the machine as it was, and counts of failures and loads that didn't fall; where they failed, the
-- failures rose. What explains the log after them explained it before, and told faults explain it if they did before.
pub record LoadsUpTo {T : Type 0} (most : ℕ) (result : Result T RigFail) (old new : RigState) : Type 0 where
  pub machine : new.machine ≡ old.machine
  pub later : old.failures ≤ new.failures
  pub counted : old.loads ≤ new.loads
  pub loads : new.loads ≤ old.loads + most
  pub cause : IsErrOf result work.Failed → Rose old.failures new.failures
  pub narrows : Narrows old new
  pub tells : Tells old new

-- Memory was wanting before a session began: the rig is as it was, or its last load was refused and there is no session.
abbrev pub WantsBefore : RigState → RigState → Type 0
WantsBefore old new = (new ≡ old) ⊎ (new.session ≡ None)

-- the first reading after a load, where the faults are told
pub record ReadsOnce (told : Option Faults) (g : Configuration) (drive reading : Pins) : Type 0 where
  pub run : (f : Faults) → told ≡ Some f → IsRun f g (drive ∷ []) (reading ∷ [])

-- a pin, and a pin in two cycles, read these bits after a load
pub record Reads (told : Option Faults) (g : Configuration) (drive : Pins) (pin : ℕ) (bit : Bool) : Type 0 where
  pub reading : Pins
  pub run : (f : Faults) → told ≡ Some f → IsRun f g (drive ∷ []) (reading ∷ [])
  pub bit_is : bit ≡ slice_index_or reading pin true

pub record ReadsTwice (told : Option Faults) (g : Configuration) (low high : Pins) (pin : ℕ) (first second : Bool) : Type 0 where
  pub reading : Pins
  pub later : Pins
  pub run : (f : Faults) → told ≡ Some f → IsRun f g (low ∷ high ∷ []) (reading ∷ later ∷ [])
  pub first_is : first ≡ slice_index_or reading pin true
  pub second_is : second ≡ slice_index_or later pin true

-- yes exactly where the first readings under two configurations differ at a pin
pub record TellsApart (told : Option Faults) (g h : Configuration) (drive : Pins) (pin : ℕ) (yes : Bool) : Type 0 where
  pub exact : (f : Faults) (r q : Pins) → told ≡ Some f → IsRun f g (drive ∷ []) (r ∷ []) → IsRun f h (drive ∷ []) (q ∷ []) →
      (IsTrue yes ↔ (slice_index_or r pin true ≢ slice_index_or q pin true))

-- yes exactly where a pin reads 0 under one drive and 1 under the other, in one session
pub record TellsSwing (told : Option Faults) (g : Configuration) (low high : Pins) (pin : ℕ) (yes : Bool) : Type 0 where
  pub exact : (f : Faults) (r q : Pins) → told ≡ Some f → IsRun f g (low ∷ high ∷ []) (r ∷ q ∷ []) →
      (IsTrue yes ↔ (slice_index_or r pin true ≢ slice_index_or q pin true))

-- yes exactly where the pin of a route reads otherwise, at one time, than that of each of some others
pub record TellsFromAll (told : Option Faults) (g : Configuration) (drive : Pins) (left : Walk) (rights : List Walk)
    (yes : Bool) : Type 0 where
  pub exact : (f : Faults) (r : Pins) → told ≡ Some f → IsRun f g (drive ∷ []) (r ∷ []) →
      (IsTrue yes ↔ All (λ s. slice_index_or r left.pin true ≢ slice_index_or r s.pin true) rights)

-- all wires that these routes lead over
abbrev pub wires_over : List Walk → List ℕ
wires_over rs = flat_map (λ r. r.wires) rs

-- The route is one of the machine, and its crosspoints are closed and kept.
pub record IsReady (k : Kept) (g : Configuration) (r : Walk) : Type 0 where
  pub route : IsRoute k.shape r
  pub closed : (x : ℕ) → among r.crosses x ≡ true → is_closed g x ≡ true
  pub kept : (x : ℕ) → among r.crosses x ≡ true → keeps_cross k x ≡ true

-- Where the faults are told, the answer is yes if ..

-- .. the crosspoint closes a loop of two groups, the pin of the one is driven, and so is none outside this one
pub record CrossPasses (told : Option Faults) (g : Configuration) (x : ℕ) (drive : Pins) (pin : ℕ) (yes : Bool) : Type 0 where
  pub at : (f : Faults) (left right : ℕ → Bool) (k : ℕ) → told ≡ Some f → IsLoop f g x left right k pin →
      IsDrivenIn g.shape drive k left → IsTrue yes

-- .. the cell is tested by two groups, and the pin of the one alone is driven
pub record CellPasses (told : Option Faults) (g : Configuration) (t a : ℕ) (drive : Pins) (pin : ℕ) (yes : Bool) : Type 0 where
  pub at : (f : Faults) (s : Setting) (left right bits : ℕ → Bool) (k : ℕ) → told ≡ Some f → IsCellTest f g t a s left right bits k pin →
      IsDrivenAlone drive k → IsTrue yes

-- .. the register is tested by two groups
pub record RegisterPasses (told : Option Faults) (g : Configuration) (t : ℕ) (drive : Pins) (pin : ℕ) (yes : Bool) : Type 0 where
  pub at : (f : Faults) (s : Setting) (left right : ℕ → Bool) → told ≡ Some f → IsRegisterTest f g t s left right drive pin → IsTrue yes

-- .. all tables are off, and the pin is in a group that is apart from another and is driven 0 by the first drive, where
-- the second drives nothing
pub record SwingPasses (told : Option Faults) (g : Configuration) (low high : Pins) (k : ℕ) (yes : Bool) : Type 0 where
  pub at : (f : Faults) (left right : ℕ → Bool) → told ≡ Some f → AreOff g → AreGroups g.shape f (is_closed g) left right →
      left (pin_wire g.shape k) ≡ true → slice_index_or low k true ≡ false → AreReleased high → IsTrue yes

-- .. all tables are off, and the pin of the left route is in one group and those of the right ones in another that is
-- apart from it, of which the left one alone is driven
pub record AllApartPasses (told : Option Faults) (g : Configuration) (drive : Pins) (left : Walk) (rights : List Walk)
    (yes : Bool) : Type 0 where
  pub at : (f : Faults) (l r : ℕ → Bool) → told ≡ Some f → AreOff g → AreGroups g.shape f (is_closed g) l r →
      l (pin_wire g.shape left.pin) ≡ true → All (λ s. r (pin_wire g.shape s.pin) ≡ true) rights → IsDrivenAlone drive left.pin → IsTrue yes
