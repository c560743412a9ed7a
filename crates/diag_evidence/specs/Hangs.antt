-- Wires that are hung on forests, to be tested.
use Rattle.std.specs.Prelude.{◌≡◌, ◌⊎◌, ℕ, ◌<◌, ◌≤◌, ◌+◌, ◌==◌, Bool, true, false, not, ◌&&◌, ◌||◌, Option, Some, None, List, [], ◌∷◌}
use Rattle.std.specs.Prelude.{◌++◌, All, length, map, filter, unwrap_or}
use Rattle.std.specs.List.{list_any, list_all, range_with_len, IsDistinct}
use Rattle.machine_meaning.specs.Vocabulary.{Pins, Faults, IsClear, IsAlone}
use Rattle.machine_shape.specs.Shape.{Ends, ends_of, pin_wire, pins_of, wires_of, crosses_of}
use Rattle.machine_shape.specs.declared.{Cross.Cross, Wire.Wire}
use Rattle.machine_config.specs.Vocabulary.{among, Configuration, is_closed, AreOff}
use Rattle.base_bits.specs.Numbers.{has_number}
use Rattle.diag_tests.specs.Routes.{other_end}
use Rattle.diag_evidence.specs.{declared.hangs.WireTest.WireTest, Kept.Kept, Kept.HoldsFor, Kept.Gain, Kept.Gains, Kept.nothing}
use Rattle.diag_evidence.specs.{Forests.Trees, Forests.HangsOn, Forests.pin_of, Forests.is_hung, Forests.is_laid, Logged.HasLogged}
use Rattle.rig.specs.Rig.{RigState, Past}
use Rattle.diag_evidence.specs.Looks.{IsLook, IsLookOf, LogsLook, differ, swings, parts, read_free, read_under}

-- a wire, and a crosspoint from it to a wire that hangs
abbrev pub Foot : Type 0
Foot = Wire × Cross

-- the foot over the first crosspoint of a hang
abbrev pub over_of : WireTest → Foot
over_of h = (h.wire, h.over)

-- the hang whose crosspoints have changed places
abbrev pub turned : WireTest → WireTest
turned h = record { wire = h.wire; over = h.other; other = h.over }

-- the feet over first crosspoints, over second ones, and all
abbrev pub overs : List WireTest → List Foot
overs hs = map over_of hs

abbrev pub others : List WireTest → List Foot
others hs = overs (map turned hs)

abbrev pub all_feet : List WireTest → List Foot
all_feet hs = overs hs ++ others hs

-- the pin of the tree to which the crosspoint leads
abbrev pub pin_at : Trees → Foot → ℕ
pin_at trees foot = unwrap_or (pin_of trees (other_end trees.shape foot.1.0 foot.0.0)) 0

-- the wire hangs nowhere, and the other end of the crosspoint does
pub record IsFoot (trees : Trees) (foot : Foot) : Type 0 where
  pub wire : foot.0.0 < wires_of trees.shape
  pub cross : foot.1.0 < crosses_of trees.shape
  pub ends : Ends (ends_of trees.shape foot.1.0) foot.0.0 (other_end trees.shape foot.1.0 foot.0.0)
  pub hangs : HangsOn trees (other_end trees.shape foot.1.0 foot.0.0) (pin_at trees foot)
  pub loose : pin_of trees foot.0.0 ≡ None

-- the wires all differ, and so do the pins
pub record AreFeet (trees : Trees) (feet : List Foot) : Type 0 where
  pub each : All (IsFoot trees) feet
  pub wires : IsDistinct (λ a b. a == b) (map (λ foot. foot.0.0) feet)
  pub pins : IsDistinct (λ a b. a == b) (map (pin_at trees) feet)

pub record AreHangs (trees : Trees) (hs : List WireTest) : Type 0 where
  pub over : All (λ h. IsFoot trees (over_of h)) hs
  pub other : All (λ h. IsFoot trees (over_of (turned h))) hs
  pub wires : IsDistinct (λ a b. a == b) (map (λ h. h.wire.0) hs)
  pub pins : IsDistinct (λ a b. a == b) (map (pin_at trees) (all_feet hs))

-- the crosspoints of the feet, and with them those of the forest
abbrev pub feet_crosses : List Foot → List ℕ
feet_crosses feet = map (λ foot. foot.1.0) feet

abbrev pub closes : Trees → List Foot → ℕ → Bool
closes trees feet x = is_laid trees x || among (feet_crosses feet) x

-- just those of the forest are closed, nothing is on, and a cycle has one tick
pub record ClosesForest (trees : Trees) (g : Configuration) : Type 0 where
  pub shape : g.shape ≡ trees.shape
  pub closed : (x : ℕ) → is_closed g x ≡ is_laid trees x
  pub off : AreOff g
  pub ticks : g.ticks ≡ 1

-- just these are closed, nothing is on, and a cycle has one tick
pub record ClosesJust (trees : Trees) (feet : List Foot) (g : Configuration) : Type 0 where
  pub shape : g.shape ≡ trees.shape
  pub closed : (x : ℕ) → is_closed g x ≡ closes trees feet x
  pub off : AreOff g
  pub ticks : g.ticks ≡ 1

-- the pin of each other foot parts from that of this one
abbrev pub others_part : Trees → List Foot → List Pins → Foot → Bool
others_part trees feet rows foot =
    list_all (λ other. (other.0.0 == foot.0.0) || parts rows (pin_at trees other) (pin_at trees foot)) feet

-- a pin reads otherwise than 1 where another pin that hangs is driven
abbrev pub falls_with_others : Trees → List Pins → ℕ → Bool
falls_with_others trees rows pin = list_any
    (λ k. not (k == pin) && (is_hung trees (pin_wire trees.shape k) && not (read_under rows k pin)))
    (range_with_len 0 (pins_of trees.shape))

-- .. or otherwise than 0 where it is driven itself, or otherwise than 1 where nothing is
abbrev pub reads_oddly : Trees → List Pins → ℕ → Bool
reads_oddly trees rows pin = read_under rows pin pin || (not (read_free rows pin) || falls_with_others trees rows pin)

-- a pin reads the same where it is driven as where nothing is
abbrev pub reads_alike : List Pins → ℕ → Bool
reads_alike rows pin = not (differ (read_under rows pin pin) (read_free rows pin))

-- whether a wire is that of a foot of which the look shows that it isn't fit, and that it isn't clear
abbrev pub shows_unfit : Trees → List Foot → List Pins → Foot → Bool
shows_unfit trees feet rows foot = others_part trees feet rows foot && reads_oddly trees rows (pin_at trees foot)

abbrev pub shows_unclear : Trees → List Foot → List Pins → Foot → Bool
shows_unclear trees feet rows foot = shows_unfit trees feet rows foot && reads_alike rows (pin_at trees foot)

abbrev pub is_unfit_in : Trees → List Foot → List Pins → ℕ → Bool
is_unfit_in trees feet rows w = list_any (λ foot. (foot.0.0 == w) && shows_unfit trees feet rows foot) feet

abbrev pub is_unclear_in : Trees → List Foot → List Pins → ℕ → Bool
is_unclear_in trees feet rows w = list_any (λ foot. (foot.0.0 == w) && shows_unclear trees feet rows foot) feet

-- Where the faults are told and what is kept is true of them, a wire that is newly marked unfit is shorted to a stuck wire or to one
-- that hangs in the forest ..
abbrev pub MarksUnfit : Option Faults → Kept → Trees → List Bool → List Bool → Type 0
MarksUnfit told k trees was is = (f : Faults) → told ≡ Some f → HoldsFor k f → (w : ℕ) → has_number was w ≡ false →
    has_number is w ≡ true → IsClear k.shape f w → ¬ IsAlone k.shape f (λ u. is_hung trees u ≡ true) w

-- .. and one that is newly marked unclear to a stuck one
abbrev pub MarksUnclear : Option Faults → Kept → List Bool → List Bool → Type 0
MarksUnclear told k were are = (f : Faults) → told ≡ Some f → HoldsFor k f → (w : ℕ) → has_number were w ≡ false →
    has_number are w ≡ true → ¬ IsClear k.shape f w

-- Where the faults are told and what is kept is true of them, each marked wire is shorted to a stuck wire or to one of these ..
abbrev pub UnfitIf : Option Faults → Kept → (ℕ → Bool) → List Bool → Type 0
UnfitIf told k known marks = (f : Faults) → told ≡ Some f → HoldsFor k f → (w : ℕ) → has_number marks w ≡ true →
    IsClear k.shape f w → ¬ IsAlone k.shape f (λ u. known u ≡ true) w

-- .. or to a stuck one
abbrev pub UnclearIf : Option Faults → Kept → List Bool → Type 0
UnclearIf told k marks = (f : Faults) → told ≡ Some f → HoldsFor k f → (w : ℕ) → has_number marks w ≡ true → ¬ IsClear k.shape f w

-- these wires are all that hang, and maybe more
abbrev pub AreAllOf : Trees → (ℕ → Bool) → Type 0
AreAllOf trees known = (w : ℕ) → is_hung trees w ≡ true → known w ≡ true

-- what was marked stays so
abbrev pub StayMarked : List Bool → List Bool → Type 0
StayMarked old new = (w : ℕ) → has_number old w ≡ true → has_number new w ≡ true

-- what a look at a forest and some feet marks
pub record HasMarked (trees : Trees) (feet : List Foot) (rows : List Pins) (was is were are : List Bool) : Type 0 where
  pub unfit : (w : ℕ) → has_number is w ≡ (is_unfit_in trees feet rows w || has_number was w)
  pub unclear : (w : ℕ) → has_number are w ≡ (is_unclear_in trees feet rows w || has_number were w)

-- the one look of `screen_wires`
pub record HasTold (told : Option Faults) (trees : Trees) (feet : List Foot) (rows : List Pins) (was is were are : List Bool) : Type 0 where
  pub look : IsLook told trees.shape (closes trees feet) rows
  pub marks : HasMarked trees feet rows was is were are

-- the pins at which a hang ends: p over its first crosspoint, q over its second
abbrev pub pin_p : Trees → WireTest → ℕ
pin_p trees h = pin_at trees (over_of h)

abbrev pub pin_q : Trees → WireTest → ℕ
pin_q trees h = pin_at trees (over_of (turned h))

-- some q reads 1 with nothing driven, and 0 with its p driven
abbrev pub some_answers : Trees → List WireTest → List Pins → Bool
some_answers trees hs rows = list_any (λ h. read_free rows (pin_q trees h) && not (read_under rows (pin_p trees h) (pin_q trees h))) hs

-- from this pin, of a hang of this wire, parts the p of each other hang
abbrev pub others_part_from : Trees → List WireTest → List Pins → ℕ → ℕ → Bool
others_part_from trees hs rows w q = list_all (λ o. (o.wire.0 == w) || parts rows (pin_p trees o) q) hs

-- The first crosspoint of a hang is shown where q reads otherwise without the first ones, while p alone is driven, and where the p of
-- each other hang parts from this q.
abbrev pub is_shown : Trees → List WireTest → List Pins → List Pins → WireTest → Bool
is_shown trees hs rows without h =
    differ (read_under rows (pin_p trees h) (pin_q trees h)) (read_under without (pin_p trees h) (pin_q trees h))
    && others_part_from trees hs rows h.wire.0 (pin_q trees h)

-- the feet over first crosspoints that are shown
abbrev pub shown : Trees → List WireTest → List Pins → List Pins → List Foot
shown trees hs rows without = overs (filter (is_shown trees hs rows without) hs)

-- whether a wire is that of a foot whose pin swings
abbrev pub is_swinging_on : Trees → List Foot → List Pins → ℕ → Bool
is_swinging_on trees feet rows w = list_any (λ foot. (foot.0.0 == w) && swings rows (pin_at trees foot)) feet

-- What a look shows of wires on feet that are kept: the crosspoints of the feet, and the wires whose pins swing.
abbrev pub seen_on : Trees → List Foot → List Pins → Gain
seen_on trees feet rows = record nothing {
  crosses = among (feet_crosses feet);
  wires = is_swinging_on trees feet rows;
}

-- whether a pin parts from each other pin of the machine that hangs
abbrev pub parts_from_hung : Trees → List Pins → ℕ → Bool
parts_from_hung trees rows pin = list_all
    (λ k. (k == pin) || (not (is_hung trees (pin_wire trees.shape k)) || parts rows k pin)) (range_with_len 0 (pins_of trees.shape))

-- whether all wires of the set hang
abbrev pub all_hang : List Bool → Trees → Bool
all_hang set trees = list_all (λ w. not (has_number set w) || is_hung trees w) (range_with_len 0 (length set))

-- Whether both crosspoints of a hang are shown, its q swings without the first crosspoints, and there parts from each other pin that
-- hangs, and its p does that without the second ones.
abbrev pub joins : Trees → List WireTest → List Pins → List Pins → List Pins → WireTest → Bool
joins trees hs rows without_over without_other h = is_shown trees hs rows without_over h
    && (is_shown trees (map turned hs) rows without_other (turned h) && (swings without_over (pin_q trees h)
    && (parts_from_hung trees without_over (pin_q trees h) && parts_from_hung trees without_other (pin_p trees h))))

-- where all wires of the set hang, the wires of such hangs join it
abbrev pub joined_by : List Bool → Trees → List WireTest → List Pins → List Pins → List Pins → Gain
joined_by set trees hs rows without_over without_other = record nothing {
  apart = λ w. all_hang set trees && list_any (λ h. (h.wire.0 == w) && joins trees hs rows without_over without_other h) hs;
}

-- The second and third look: in one the second crosspoints alone are closed beside the forest, in the other the first ones. The feet
-- over second crosspoints that are shown are seen in the former, the others in the latter; and wires join the set by both.
pub record HasHungOn (told : Option Faults) (trees : Trees) (hs : List WireTest) (rows : List Pins) (old new : Kept)
    (was is were are : List Bool) : Type 0 where
  pub without_over : List Pins
  pub over_look : IsLook told trees.shape (closes trees (others hs)) without_over
  pub without_other : List Pins
  pub other_look : IsLook told trees.shape (closes trees (overs hs)) without_other
  pub mid : Kept
  pub first : Gains (seen_on trees (shown trees (map turned hs) rows without_other) without_over) old mid
  pub near : Kept
  pub second : Gains (seen_on trees (shown trees hs rows without_over) without_other) mid near
  pub third : Gains (joined_by near.apart trees hs rows without_over without_other) near new
  pub some : List Bool
  pub few : List Bool
  pub first_marks : HasMarked trees (others hs) without_over was some were few
  pub second_marks : HasMarked trees (overs hs) without_other some is few are

-- What `test_wires` leaves, where the rig counted so many loads before and after: where no pin answers in the first look, all as it was,
-- and no other look is made.
pub data HasTried (told : Option Faults) (trees : Trees) (hs : List WireTest) (before after : ℕ) (old new : Kept)
    (was is were are : List Bool) : Type 0 where
  silent : (rows : List Pins) → IsLook told trees.shape (closes trees (all_feet hs)) rows →
      some_answers trees hs rows ≡ false → after ≤ before + 1 → new ≡ old → is ≡ was → are ≡ were →
      HasTried told trees hs before after old new was is were are
  answered : (rows : List Pins) → IsLook told trees.shape (closes trees (all_feet hs)) rows →
      some_answers trees hs rows ≡ true → HasHungOn told trees hs rows old new was is were are →
      HasTried told trees hs before after old new was is were are

-- the sessions of the three looks are new in the log
pub record LogsThree (trees : Trees) (hs : List WireTest) (rows without_over without_other : List Pins) (old new : RigState) : Type 0 where
  pub all : Past
  pub all_look : IsLookOf trees.shape (closes trees (all_feet hs)) rows all
  pub over : Past
  pub over_look : IsLookOf trees.shape (closes trees (others hs)) without_over over
  pub other : Past
  pub other_look : IsLookOf trees.shape (closes trees (overs hs)) without_other other
  pub logged : HasLogged (all ∷ over ∷ other ∷ []) old new

-- What the log shows of it: the first look alone is new in it, no pin answers there, and all is as it was ..
pub record ShowsSilent (trees : Trees) (hs : List WireTest) (before after : RigState) (old new : Kept) (was is were are : List Bool) :
    Type 0 where
  pub rows : List Pins
  pub look : LogsLook trees.shape (closes trees (all_feet hs)) rows before after
  pub unanswered : some_answers trees hs rows ≡ false
  pub same : new ≡ old
  pub unmarked : is ≡ was
  pub unmarked_too : are ≡ were

-- .. or all three are, some pin answers in the first, and they show what is kept and marked.
pub record ShowsHung (trees : Trees) (hs : List WireTest) (before after : RigState) (old new : Kept) (was is were are : List Bool) :
    Type 0 where
  pub rows : List Pins
  pub without_over : List Pins
  pub without_other : List Pins
  pub looks : LogsThree trees hs rows without_over without_other before after
  pub answers : some_answers trees hs rows ≡ true
  pub mid : Kept
  pub first : Gains (seen_on trees (shown trees (map turned hs) rows without_other) without_over) old mid
  pub near : Kept
  pub second : Gains (seen_on trees (shown trees hs rows without_over) without_other) mid near
  pub third : Gains (joined_by near.apart trees hs rows without_over without_other) near new
  pub some : List Bool
  pub few : List Bool
  pub first_marks : HasMarked trees (others hs) without_over was some were few
  pub second_marks : HasMarked trees (overs hs) without_other some is few are

abbrev pub ShowsTried : Trees → List WireTest → RigState → RigState → Kept → Kept → List Bool → List Bool → List Bool → List Bool → Type 0
ShowsTried trees hs before after old new was is were are =
    ShowsSilent trees hs before after old new was is were are ⊎ ShowsHung trees hs before after old new was is were are
