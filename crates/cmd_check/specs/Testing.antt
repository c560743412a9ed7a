-- An image is tested on the machine that is attached, as a step.
use Rattle.std.specs.Prelude.{ℕ, ◌+◌, ◌*◌, ◌<◌, Bool, IsTrue, List, length}
use Rattle.machine_meaning.specs.Faults.{Faults}
use Rattle.machine_image.specs.Vocabulary.{ImageValue, Part}
use Rattle.rig.specs.Rig.{RigState, Explains}
use Rattle.diag_check.specs.Soundly.{AreAllOf, IsUnharmed, IsSoundUnder, StandsBySurroundings, TakesForParts, TakesForWays}
use Rattle.cmd_steps.specs.Vocabulary.{Step, FailsOnRig}

-- what a test found, and how many loads the rig counted then
pub record Tried : Type 0 where
  pub sound : Bool
  pub loads : ℕ

-- Each set of faults that explains what was read leaves what is found sound alone, so that it runs soundly; and where one such set
-- leaves the image unharmed, or it stands by its surroundings under one, it is found sound. It took few loads from so many that the
-- rig counted before, and fewer where one such set leaves it unharmed
pub record IsTried (i : ImageValue) (before : ℕ) (rig : RigState) (t : Tried) : Type 0 where
  pub sound : (f : Faults) → Explains f rig → IsTrue t.sound → IsSoundUnder f i
  pub whole : (f : Faults) → Explains f rig → IsUnharmed f i → IsTrue t.sound
  pub ways : (f : Faults) → Explains f rig → StandsBySurroundings f i → IsTrue t.sound
  pub few : TakesForWays i before t.loads
  pub fewer : (f : Faults) → Explains f rig → IsUnharmed f i → TakesForParts i before t.loads

-- an image is tested, with few loads, also where the test isn't made
abbrev pub tests : ImageValue → (before : ℕ) → RigState → Step Tried
tests i before rig = record { stops = λ refusal. FailsOnRig refusal × TakesForWays i before rig.loads; gives = IsTried i before rig }

-- the same of what it found alone, from the rig as it was before to the rig as it is then
abbrev pub tests_now : ImageValue → (old new : RigState) → Step Bool
tests_now i old new = record {
  stops = λ refusal. FailsOnRig refusal × TakesForWays i old.loads new.loads;
  gives = λ sound. IsTried i old.loads new (record { sound = sound; loads = new.loads });
}

-- A test that was begun when the rig counted so many loads has one left, when it counts so many: it took fewer than 256 for each part of
-- the image
pub record HasTestLeft (i : ImageValue) (before now : ℕ) : Type 0 where
  pub few : (parts : List Part) (nodes : List ℕ) → AreAllOf i parts nodes → now < before + 256 * length parts
