-- Looks: what all pins read while nothing is driven, and while each pin is driven alone.
use Rattle.std.specs.Prelude.{◌≡◌, ◌⊎◌, ℕ, ◌+◌, ◌^◌, ◌<◌, ◌==◌, Bool, true, false, not, ◌&&◌, ◌||◌, if◌then◌else◌}
use Rattle.std.specs.Prelude.{Option, Some, None, List, [], ◌∷◌}
use Rattle.std.specs.Prelude.{map, length, All, replicate, slice_index_or, slice_set, refl}
use Rattle.std.specs.{List.list_any, List.list_all, List.range_with_len, Option.option_map_or}
use Rattle.std.specs.Coded.{Coded, code_by, coded×, coded_ℕ, coded_bool, coded_list}
use Rattle.machine_shape.specs.{declared.Shape.Shape, Shape.pin_wire, Shape.pins_of, Shape.wires_of}
use Rattle.machine_meaning.specs.Vocabulary.{Pins, Faults}
use Rattle.machine_config.specs.Vocabulary.{Configuration, is_closed, IsRun, AreOff}
use Rattle.rig.specs.Rig.{RigState, Past, drives_of, readings_of}
use Rattle.diag_evidence.specs.{Forests.Trees, Forests.pin_of, Forests.is_hung, Forests.is_laid, Readings.HasCycled, Logged.HasLogged}
use Rattle.diag_evidence.specs.Kept.{Kept, Gain, Gains, nothing}

-- what so many pins read in each cycle of a look
pub record Sights : Type 0 where
  pub pins : ℕ
  pub rows : List Pins

abbrev pub coded_sights : Coded Sights
coded_sights = code_by (ℕ × List (List Bool)) (coded× coded_ℕ (coded_list (coded_list coded_bool))) (λ s. (s.pins, s.rows))
    (λ p. record { pins = p.0; rows = p.1 }) (λ _. refl)

-- a reading of each pin for each cycle, of which there is one more than there are pins
pub record AreSights (s : Sights) : Type 0 where
  pub cycles : length s.rows ≡ s.pins + 1
  pub each : All (λ row. length row ≡ s.pins) s.rows
  pub few : s.pins < 2 ^ 31

-- no pin is driven, and one is alone
abbrev pub none_driven : ℕ → Pins
none_driven n = replicate n true

abbrev pub one_driven : ℕ → ℕ → Pins
one_driven n k = slice_set (none_driven n) k false

-- in the first cycle nothing is driven, and in the others one pin after the other is, alone
abbrev pub look_drives : ℕ → List Pins
look_drives n = none_driven n ∷ map (one_driven n) (range_with_len 0 n)

-- what a pin reads in a cycle, where nothing is driven, and where a pin is driven alone
abbrev pub read_at : List Pins → ℕ → ℕ → Bool
read_at rows cycle pin = slice_index_or (slice_index_or rows cycle []) pin true

abbrev pub read_free : List Pins → ℕ → Bool
read_free rows pin = read_at rows 0 pin

abbrev pub read_under : List Pins → ℕ → ℕ → Bool
read_under rows driven pin = read_at rows (driven + 1) pin

abbrev pub differ : Bool → Bool → Bool
differ a b = if a then not b else b

-- the pin reads a bit in some cycle
abbrev pub reads_somewhere : List Pins → ℕ → Bool → Bool
reads_somewhere rows pin bit = list_any (λ row. not (differ (slice_index_or row pin true) bit)) rows

-- the pin reads 0 in one cycle and 1 in another
abbrev pub swings : List Pins → ℕ → Bool
swings rows pin = reads_somewhere rows pin false && reads_somewhere rows pin true

-- the two pins read different values in some cycle
abbrev pub parts : List Pins → ℕ → ℕ → Bool
parts rows a b = list_any (λ row. differ (slice_index_or row a true) (slice_index_or row b true)) rows

-- after a load, each row is what all pins read under its drive, where the faults are told
pub record ReadsEach (told : Option Faults) (g : Configuration) (drives rows : List Pins) : Type 0 where
  pub run : (f : Faults) → told ≡ Some f → IsRun f g drives rows

-- A load that closes just these crosspoints, with nothing on and one tick, gives these rows in the cycles of a look, where the faults
-- are told.
pub record IsLook (told : Option Faults) (m : Shape) (close : ℕ → Bool) (rows : List Pins) : Type 0 where
  pub config : Configuration
  pub shape : config.shape ≡ m
  pub closed : (x : ℕ) → is_closed config x ≡ close x
  pub off : AreOff config
  pub ticks : config.ticks ≡ 1
  pub run : (f : Faults) → told ≡ Some f → IsRun f config (look_drives (pins_of m)) rows

-- the session is that of such a look, and its pins read these rows
pub record IsLookOf (m : Shape) (close : ℕ → Bool) (rows : List Pins) (session : Past) : Type 0 where
  pub shape : session.config.shape ≡ m
  pub closed : (x : ℕ) → is_closed session.config x ≡ close x
  pub off : AreOff session.config
  pub ticks : session.config.ticks ≡ 1
  pub driven : drives_of session.cycles ≡ look_drives (pins_of m)
  pub read : readings_of session.cycles ≡ rows

-- such a session is new in the log
pub record LogsLook (m : Shape) (close : ℕ → Bool) (rows : List Pins) (old new : RigState) : Type 0 where
  pub session : Past
  pub look : IsLookOf m close rows session
  pub logged : HasLogged (session ∷ []) old new

-- the session is that of a look, and all its cycles are made
pub record HasLooked (m : Shape) (rig : RigState) : Type 0 where
  pub config : Configuration
  pub cycled : HasCycled config (look_drives (pins_of m)) rig

-- Memory was wanting: the rig is as it was, or its last load was refused and there is no session, or the session is that of a look
-- whose cycles are all made.
abbrev pub WantsRoom : Shape → RigState → RigState → Type 0
WantsRoom m old new = (new ≡ old) ⊎ ((new.session ≡ None) ⊎ HasLooked m new)

-- whether a wire hangs on a pin that swings
abbrev pub hangs_swinging : Trees → List Pins → ℕ → Bool
hangs_swinging trees rows w = option_map_or (λ p. swings rows p) (pin_of trees w) false

-- whether all wires that hang, but for one, do so on pins that part from this one
abbrev pub parts_from_others : Trees → List Pins → ℕ → ℕ → Bool
parts_from_others trees rows pin w = list_all (λ u. (u == w) || option_map_or (λ p. parts rows p pin) (pin_of trees u) true)
    (range_with_len 0 (wires_of trees.shape))

-- whether a pin of the machine hangs, is alone on its pin, which is itself, swings, and parts from each other pin on which a wire hangs
abbrev pub joins_alone : Trees → List Pins → ℕ → Bool
joins_alone trees rows k = is_hung trees (pin_wire trees.shape k)
    && (swings rows k && parts_from_others trees rows k (pin_wire trees.shape k))

-- the wires that hang on pins that swing, and the pins of the machine that join the set
abbrev pub seen_in : Trees → List Pins → Gain
seen_in trees rows = record nothing {
  wires = hangs_swinging trees rows;
  apart = λ w. list_any (λ k. (pin_wire trees.shape k == w) && joins_alone trees rows k) (range_with_len 0 (pins_of trees.shape));
}

-- What a look shows: just the wires that hang on pins that swing are kept, and just those pins of the machine join the set that swing
-- alone and part from all others.
pub record HasSeen (told : Option Faults) (trees : Trees) (old new : Kept) : Type 0 where
  pub rows : List Pins
  pub look : IsLook told trees.shape (is_laid trees) rows
  pub gains : Gains (seen_in trees rows) old new

-- The session of a look is new in the log, and just what its rows show is kept.
pub record ShowsSeen (trees : Trees) (was is : RigState) (old new : Kept) : Type 0 where
  pub rows : List Pins
  pub look : LogsLook trees.shape (is_laid trees) rows was is
  pub gains : Gains (seen_in trees rows) old new
