-- When an image is a repair of another.
use Rattle.std.specs.Prelude.{◌≡◌, ◌⊎◌, ℕ, ◌<◌, true, List, Bool, map, length, IsSome}
use Rattle.std.specs.List.{Contains}
use Rattle.machine_shape.specs.Shape.{ends_of, nodes_of, IsPort}
use Rattle.machine_meaning.specs.Vocabulary.{Faults, IsFaultless, Pins, Defects, Covers}
use Rattle.machine_config.specs.Vocabulary.{is_closed, setting_of, IsRun}
use Rattle.machine_image.specs.Images.{ImageValue, drive_of, image_row}
use Rattle.place_plan.specs.declared.short.{PlaceFail.PlaceFail, Visit.Visit}
use Rattle.place_plan.specs.declared.short.PlaceFail.TheVariants as fail
use Rattle.place_plan.specs.Vocabulary.{AreVisits, nth_of, HasTerminal, CrossesAt, HasPort, IsTapOf}
use Rattle.place_repair.specs.{declared.seats.Seats.Seats, Nets.HangTogether, Nets.HasWire}
use Rattle.place_repair.specs.Plans.{AreSeats, AreNets, HasRoom, IsKeptWire, IsShortPlan, IsStaying, Nets, PinSits, TableSits}

-- Under all faults that the list covers, the new image reads at its output pins what the old one reads without faults at its own, each
-- with the vectors on its input pins and 1 on all others.
abbrev pub HasSameRows : Defects → ImageValue → ImageValue → Type 0
HasSameRows d old new = (f none : Faults) → Covers old.config.shape d f → IsFaultless none →
    (vectors : List (List Bool)) (reads others : List Pins) →
    IsRun f new.config (map (drive_of new) vectors) reads → IsRun none old.config (map (drive_of old) vectors) others →
    map (image_row new) reads ≡ map (image_row old) others

-- the pins are those of the old image, each where the plan says
pub record ArePinsAt (d : Defects) (old : ImageValue) (s : Seats) (pins moved : List ℕ) : Type 0 where
  pub sized : length moved ≡ length pins
  pub each : (k : ℕ) → k < length pins → PinSits d old s (nth_of pins k) (nth_of moved k)

-- a switched-on table stands where the plan says, with its setting
pub record IsTableAt (d : Defects) (old new : ImageValue) (s : Seats) (t : ℕ) : Type 0 where
  pub place : ℕ
  pub sits : TableSits d old s t place
  pub setting : setting_of new.config place ≡ setting_of old.config t

-- it is there for a switched-on table of the old image
pub record IsOfTable (d : Defects) (old : ImageValue) (s : Seats) (u : ℕ) : Type 0 where
  pub table : ℕ
  pub on : IsSome (setting_of old.config table)
  pub sits : TableSits d old s table u

-- the net's terminals hang together with the port that the plan gives it at the node, and with no other port of that node
pub record IsPortAt (old new : ImageValue) (n : Nets) (node k : ℕ) : Type 0 where
  pub port : ℕ
  pub is : HasPort old.config.shape n.rest (length n.lowest) (HasTerminal n.terminals) node k port
  pub joined : (w : ℕ) → HasTerminal n.terminals k w → HangTogether new.config w port
  pub only : (w other : ℕ) → HasTerminal n.terminals k w → IsPort old.config.shape node other → HangTogether new.config w other →
      other ≡ port

-- the crosspoint is closed in the old image, and is one of a kept net's
abbrev pub IsKeptNets : ImageValue → Nets → ℕ → Type 0
IsKeptNets old n x = (is_closed old.config x ≡ true) × IsKeptWire old n (ends_of old.config.shape x).0

-- at a node that a moving net visits, the crosspoint joins the net's line there to one of its taps there: to one of its terminals, or to a
-- port that the plan gives it, of the node or of a child
pub record IsOnLine (old : ImageValue) (n : Nets) (lines : List Visit) (x : ℕ) : Type 0 where
  pub visit : Visit
  pub is_one : Contains lines visit
  pub tap : ℕ
  pub is_tap : IsTapOf old.config.shape n.rest (length n.lowest) (HasTerminal n.terminals) visit.node.0 visit.net.0 tap
  pub ends : ends_of old.config.shape x ≡ (tap, visit.line.0)

-- The repair plan of the old image has room, and the new image follows it: tables and pins stand where it says, each net that moves has
-- its ports, kept nets have all their closed crosspoints, and nothing is closed besides but what joins moving nets to their lines. At each
-- node that a moving net visits it has one line, which serves it there, and no two nets share one.
pub record IsRepair (d : Defects) (old new : ImageValue) : Type 0 where
  pub seats : Seats
  pub nets : Nets
  pub seats_are : AreSeats d old seats
  pub nets_are : AreNets d old seats nets
  pub room : HasRoom old seats nets
  pub shape : new.config.shape ≡ old.config.shape
  pub ticks : new.config.ticks ≡ old.config.ticks
  pub tables : (t : ℕ) → IsSome (setting_of old.config t) → IsTableAt d old new seats t
  pub no_others : (u : ℕ) → IsSome (setting_of new.config u) → IsOfTable d old seats u
  pub inputs : ArePinsAt d old seats old.inputs new.inputs
  pub outputs : ArePinsAt d old seats old.outputs new.outputs
  pub ports : (node k : ℕ) → CrossesAt old.config.shape (length nets.lowest) (HasTerminal nets.terminals) node k →
      IsPortAt old new nets node k
  pub joined : (k w u : ℕ) → HasTerminal nets.terminals k w → HasTerminal nets.terminals k u → HangTogether new.config w u
  pub kept : (k x : ℕ) → IsStaying nets k → is_closed old.config x ≡ true →
      HasWire old.config nets.lowest k (ends_of old.config.shape x).0 → is_closed new.config x ≡ true
  pub lines : List Visit
  pub lines_are : AreVisits old.config.shape nets.rest (length nets.lowest) (HasTerminal nets.terminals) (nodes_of old.config.shape) lines
  pub only : (x : ℕ) → is_closed new.config x ≡ true → IsKeptNets old nets x ⊎ IsOnLine old nets lines x

-- why there is none: the plan hasn't room, or memory is lacking, of which nothing is said
abbrev pub IsRepairFail : Defects → ImageValue → PlaceFail → Type 0
IsRepairFail d i (fail.Short s) = IsShortPlan d i s
IsRepairFail d i fail.Memory = Unit {0}
