-- The three looks of a test of hangs.
use Rattle.std.specs.Prelude.{◌≡◌, ℕ, Bool, true, false, Option, List, map}
use Rattle.machine_meaning.specs.Vocabulary.{Faults, Pins}
use Rattle.diag_evidence.specs.{declared.hangs.WireTest.WireTest, Kept.Kept, Kept.Gains, Looks.IsLook, Looks.LogsLook, Looks.look_drives}
use Rattle.diag_evidence.specs.{declared.hangs.Plan.Plan, declared.hangs.Views.Views, declared.hangs.HangPins.HangPins, Forests.Trees}
use Rattle.rig.specs.Rig.{RigState}
use Rattle.diag_evidence.specs.Hangs.{Foot, turned, overs, others, all_feet, closes, pin_at, some_answers, shown, seen_on, joined_by}
use Rattle.diag_evidence.specs.Hangs.{HasMarked, LogsThree}

-- what is closed in the looks, and how they are driven
pub record IsPlan (hs : List WireTest) (pins : ℕ) (plan : Plan) : Type 0 where
  pub turned_are : plan.turned.items ≡ map turned hs
  pub overs_are : plan.overs.items ≡ overs hs
  pub others_are : plan.others.items ≡ others hs
  pub all_are : plan.all.items ≡ all_feet hs
  pub drives_are : plan.drives.items ≡ look_drives pins

-- the pins of the trees to which the crosspoints of hangs lead
pub record ArePins (trees : Trees) (hs : List WireTest) (pins : HangPins) : Type 0 where
  pub over : pins.over.items ≡ map (pin_at trees) (overs hs)
  pub other : pins.other.items ≡ map (pin_at trees) (others hs)

-- looks of a machine with so many pins
pub record AreViews (pins : ℕ) (views : Views) : Type 0 where
  pub all : views.all.pins ≡ pins
  pub without_over : views.without_over.pins ≡ pins
  pub without_other : views.without_other.pins ≡ pins

-- what the looks are: the first, and where some pin answers in it the two others
pub record HasViewed (told : Option Faults) (trees : Trees) (hs : List WireTest) (views : Views) (yes : Bool) : Type 0 where
  pub all : IsLook told trees.shape (closes trees (all_feet hs)) views.all.rows
  pub answers : some_answers trees hs views.all.rows ≡ yes
  pub without_over : yes ≡ true → IsLook told trees.shape (closes trees (others hs)) views.without_over.rows
  pub without_other : yes ≡ true → IsLook told trees.shape (closes trees (overs hs)) views.without_other.rows

-- what is kept and marked by the looks
pub record HasLearnt (trees : Trees) (hs : List WireTest) (views : Views) (old new : Kept) (was is were are : List Bool) : Type 0 where
  pub mid : Kept
  pub first : Gains (seen_on trees (shown trees (map turned hs) views.all.rows views.without_other.rows) views.without_over.rows) old mid
  pub near : Kept
  pub second : Gains (seen_on trees (shown trees hs views.all.rows views.without_over.rows) views.without_other.rows) mid near
  pub third : Gains (joined_by near.apart trees hs views.all.rows views.without_over.rows views.without_other.rows) near new
  pub some : List Bool
  pub few : List Bool
  pub first_marks : HasMarked trees (others hs) views.without_over.rows was some were few
  pub second_marks : HasMarked trees (overs hs) views.without_other.rows some is few are

-- the sessions of the looks are new in the log: of the first, and where some pin answers in it of all three
pub record LogsViews (trees : Trees) (hs : List WireTest) (old new : RigState) (views : Views) (yes : Bool) : Type 0 where
  pub answers : some_answers trees hs views.all.rows ≡ yes
  pub once : yes ≡ false → LogsLook trees.shape (closes trees (all_feet hs)) views.all.rows old new
  pub thrice : yes ≡ true → LogsThree trees hs views.all.rows views.without_over.rows views.without_other.rows old new
