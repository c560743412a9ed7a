-- What the last sessions of the log say.
use Rattle.std.specs.Prelude.{◌≡◌, ◌≢◌, ◌↔◌, ℕ, Bool, true, IsTrue, List, [], ◌∷◌, ◌++◌, All, slice_index_or}
use Rattle.machine_meaning.specs.Vocabulary.{Pins}
use Rattle.machine_config.specs.Vocabulary.{Configuration}
use Rattle.rig.specs.Rig.{RigState, Past, Exchange, log_of, drives_of, readings_of}
use Rattle.diag_tests.specs.Routes.{Walk}

-- a session of one cycle, and one of two
abbrev pub one_cycle : Configuration → Pins → Pins → Past
one_cycle g drive reading = record { config = g; cycles = record { drive = drive; reading = reading } ∷ [] }

abbrev pub two_cycles : Configuration → Pins → Pins → Pins → Pins → Past
two_cycles g low first high second =
    record { config = g; cycles = record { drive = low; reading = first } ∷ record { drive = high; reading = second } ∷ [] }

-- these sessions are new in the log
abbrev pub HasLogged : List Past → RigState → RigState → Type 0
HasLogged sessions old new = log_of new ≡ log_of old ++ sessions

-- a session of one cycle is new in the log, where a pin reads this bit
pub record LogsBit (g : Configuration) (drive : Pins) (pin : ℕ) (old new : RigState) (bit : Bool) : Type 0 where
  pub reading : Pins
  pub logged : HasLogged (one_cycle g drive reading ∷ []) old new
  pub bit_is : bit ≡ slice_index_or reading pin true

-- a session of two cycles is new in the log, where a pin reads these bits
pub record LogsTwice (g : Configuration) (low high : Pins) (pin : ℕ) (old new : RigState) (first second : Bool) : Type 0 where
  pub reading : Pins
  pub later : Pins
  pub logged : HasLogged (two_cycles g low reading high later ∷ []) old new
  pub first_is : first ≡ slice_index_or reading pin true
  pub second_is : second ≡ slice_index_or later pin true

-- a session of one cycle under each of these drives is new in the log, where the pins read these rows
pub record LogsRows (g : Configuration) (drives rows : List Pins) (old new : RigState) : Type 0 where
  pub cycles : List Exchange
  pub logged : HasLogged (record { config = g; cycles = cycles } ∷ []) old new
  pub driven : drives_of cycles ≡ drives
  pub read : readings_of cycles ≡ rows

-- Two sessions of one cycle are new in the log, and the answer is yes exactly where their readings differ at a pin.
pub record ShowsApart (g h : Configuration) (drive : Pins) (pin : ℕ) (old new : RigState) (yes : Bool) : Type 0 where
  pub first : Pins
  pub second : Pins
  pub logged : HasLogged (one_cycle g drive first ∷ one_cycle h drive second ∷ []) old new
  pub exact : IsTrue yes ↔ (slice_index_or first pin true ≢ slice_index_or second pin true)

-- A session of two cycles is new in the log, and the answer is yes exactly where its readings differ at a pin.
pub record ShowsSwing (g : Configuration) (low high : Pins) (pin : ℕ) (old new : RigState) (yes : Bool) : Type 0 where
  pub first : Pins
  pub second : Pins
  pub logged : HasLogged (two_cycles g low first high second ∷ []) old new
  pub exact : IsTrue yes ↔ (slice_index_or first pin true ≢ slice_index_or second pin true)

-- A session of one cycle is new in the log, and the answer is yes exactly where the pin of a route reads otherwise than that of each of
-- some others.
pub record ShowsFromAll (g : Configuration) (drive : Pins) (left : Walk) (rights : List Walk) (old new : RigState)
    (yes : Bool) : Type 0 where
  pub reading : Pins
  pub logged : HasLogged (one_cycle g drive reading ∷ []) old new
  pub exact : IsTrue yes ↔ All (λ s. slice_index_or reading left.pin true ≢ slice_index_or reading s.pin true) rights
