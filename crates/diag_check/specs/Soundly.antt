-- When an image runs soundly, what has to be kept for that, and how many loads that takes.
use Rattle.std.specs.Prelude.{◌≡◌, ◌≢◌, ℕ, ◌+◌, ◌*◌, ◌<◌, ◌≤◌, Bool, true, List, map, length, Option, Some, IsSome, IsTrue, Contains}
use Rattle.machine_meaning.specs.Vocabulary.{Pins, Faults, IsFaultless, IsSoundWire, IsSoundCross, IsSoundTable, StandsBy, IsSeated}
use Rattle.machine_config.specs.{declared.Setting.Setting, Vocabulary.is_closed, Vocabulary.setting_of, Vocabulary.IsRun}
use Rattle.machine_image.specs.Vocabulary.{ImageValue, drive_of, image_row, Uses, Part, IsPartOf, IsInvolved, IsWideEnough}
use Rattle.machine_image.specs.Vocabulary.{IsSurroundingWire, IsSurroundingCross}
use Rattle.machine_history.specs.Tenants.{LeavesAlone}
use Rattle.diag_evidence.specs.Kept.{Kept, keeps_cross, keeps_wire, keeps_pair, is_apart, keeps_cell, keeps_register}

-- For every list of vectors on its input pins, with 1 on all other pins, the image reads at its output pins under these faults what
-- it reads without faults.
pub record RunsSoundly (f : Faults) (i : ImageValue) : Type 0 where
  pub alike : (none : Faults) → IsFaultless none → (vectors : List (List Bool)) (reads others : List Pins) →
      IsRun f i.config (map (drive_of i) vectors) reads → IsRun none i.config (map (drive_of i) vectors) others →
      map (image_row i) reads ≡ map (image_row i) others

-- These faults leave the image, in itself, alone: no part of it is faulty, and no wire that it uses is shorted to a stuck one or to
-- another of them. So it runs soundly under them
pub record IsSoundUnder (f : Faults) (i : ImageValue) : Type 0 where
  pub alone : LeavesAlone f i i
  pub runs : RunsSoundly f i

-- its closed crosspoints, its used wires and each two of these are kept
pub record KeepsRoutes (k : Kept) (i : ImageValue) : Type 0 where
  pub crosses : (x : ℕ) → is_closed i.config x ≡ true → keeps_cross k x ≡ true
  pub wires : (w : ℕ) → Uses i w → keeps_wire k w ≡ true
  pub pairs : (w u : ℕ) → Uses i w → Uses i u → w ≢ u → keeps_pair k w u ≡ true

-- .. and its used wires are of the set: so each two of them are a kept pair, and stay one whatever wire is on trial
pub record KeepsRoutesInSet (k : Kept) (i : ImageValue) : Type 0 where
  pub crosses : (x : ℕ) → is_closed i.config x ≡ true → keeps_cross k x ≡ true
  pub wires : (w : ℕ) → Uses i w → keeps_wire k w ≡ true
  pub apart : (w : ℕ) → Uses i w → is_apart k w ≡ true

-- all cells of its switched-on tables are kept, and the registers of the latched ones
pub record KeepsTables (k : Kept) (i : ImageValue) : Type 0 where
  pub cells : (t a : ℕ) → IsSome (setting_of i.config t) → a < 64 → keeps_cell k t a ≡ true
  pub registers : (t : ℕ) (s : Setting) → setting_of i.config t ≡ Some s → s.latched ≡ true → keeps_register k t ≡ true

pub record KeepsParts (k : Kept) (i : ImageValue) : Type 0 where
  pub routes : KeepsRoutes k i
  pub tables : KeepsTables k i

-- where the faults are told: yes means that they leave the image alone, and so that it runs soundly under them
pub record SoundIf (told : Option Faults) (i : ImageValue) (yes : Bool) : Type 0 where
  pub at : (f : Faults) → told ≡ Some f → IsTrue yes → IsSoundUnder f i

-- under these faults each part of the image is sound: the wires that it uses, its closed crosspoints, its switched-on tables
pub record PartsAreSound (f : Faults) (i : ImageValue) : Type 0 where
  pub wires : (w : ℕ) → Uses i w → IsSoundWire i.config.shape f w
  pub crosses : (x : ℕ) → is_closed i.config x ≡ true → IsSoundCross i.config.shape f x
  pub tables : (t : ℕ) → IsSome (setting_of i.config t) → IsSoundTable i.config.shape f t

-- .. and each wire and crosspoint of its surroundings
pub record SurroundingsAreSound (f : Faults) (i : ImageValue) : Type 0 where
  pub wires : (w : ℕ) → IsSurroundingWire i w → IsSoundWire i.config.shape f w
  pub crosses : (x : ℕ) → IsSurroundingCross i x → IsSoundCross i.config.shape f x

-- No fault is near the image: the machine is wide enough for it, and its parts and surroundings are sound
pub record IsUnharmed (f : Faults) (i : ImageValue) : Type 0 where
  pub wide : IsWideEnough i.config.shape i
  pub parts : PartsAreSound f i
  pub surroundings : SurroundingsAreSound f i

-- a sound crosspoint of the surroundings
abbrev pub IsSoundNear : Faults → ImageValue → ℕ → Type 0
IsSoundNear f i x = IsSurroundingCross i x × IsSoundCross i.config.shape f x

-- the least set of sound wires of the surroundings that has each such pin of the machine, and each such wire with sound crosspoints of
-- the surroundings to two different wires of the set
abbrev pub StandsNear : Faults → ImageValue → ℕ → Type 0
StandsNear f i w = StandsBy i.config.shape (λ u. IsSoundWire i.config.shape f u × IsSurroundingWire i u) (IsSoundNear f i) w

-- Two good ways are left to each wire that the image uses, whatever is bad beside them: its parts are sound, its wires are in that
-- set, and its switched-on tables are seated among the wires of the set and those crosspoints
pub record StandsBySurroundings (f : Faults) (i : ImageValue) : Type 0 where
  pub parts : PartsAreSound f i
  pub wires : (w : ℕ) → Uses i w → StandsNear f i w
  pub tables : (t : ℕ) → IsSome (setting_of i.config t) → IsSeated i.config.shape (StandsNear f i) (IsSoundNear f i) t

-- where they are told, and leave the image unharmed, or it stands by its surroundings, the answer is yes: faults that are far from the
-- image don't matter, nor those that leave two good ways
pub record YesIf (told : Option Faults) (i : ImageValue) (yes : Bool) : Type 0 where
  pub at : (f : Faults) → told ≡ Some f → IsUnharmed f i → IsTrue yes
  pub ways : (f : Faults) → told ≡ Some f → StandsBySurroundings f i → IsTrue yes

-- each part of the image is in the one list, and each involved node in the other
pub record AreAllOf (i : ImageValue) (parts : List Part) (nodes : List ℕ) : Type 0 where
  pub each_part : (p : Part) → IsPartOf i p → Contains parts p
  pub each_node : (n : ℕ) → IsInvolved i n → Contains nodes n

-- at most 256 loads for each part and each involved node: so many for any two such lists, also those that have each once
pub record TakesForParts (i : ImageValue) (before after : ℕ) : Type 0 where
  pub few : (parts : List Part) (nodes : List ℕ) → AreAllOf i parts nodes → after ≤ before + 256 * (length parts + length nodes)

-- each crosspoint of the surroundings is in the one list, and each wire in the other
pub record HasSurroundings (i : ImageValue) (crosses wires : List ℕ) : Type 0 where
  pub each_cross : (x : ℕ) → IsSurroundingCross i x → Contains crosses x
  pub each_wire : (w : ℕ) → IsSurroundingWire i w → Contains wires w

-- besides these 256, 8 for each crosspoint and 3 for each wire of the surroundings
pub record TakesForWays (i : ImageValue) (before after : ℕ) : Type 0 where
  pub few : (parts : List Part) (nodes crosses wires : List ℕ) → AreAllOf i parts nodes → HasSurroundings i crosses wires →
      after ≤ before + 256 * (length parts + length nodes) + (8 * length crosses + 3 * length wires)

-- where the faults are told, and leave the image unharmed, the 256 alone
pub record FewIf (told : Option Faults) (i : ImageValue) (before after : ℕ) : Type 0 where
  pub at : (f : Faults) → told ≡ Some f → IsUnharmed f i → TakesForParts i before after
