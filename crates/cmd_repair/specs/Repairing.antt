-- An image is repaired on what a list of defects leaves free, as a step.
use Rattle.std.specs.Prelude.{◌≡◌, ℕ, ◌<◌, ◌≤◌}
use Rattle.std.specs.FinSet as set
use Rattle.machine_shape.specs.Vocabulary.{most_repaired}
use Rattle.machine_meaning.specs.Vocabulary.{Covers, Faults, IsFaultless}
use Rattle.machine_defects.specs.Lists.{DefectList}
use Rattle.design_netlist.specs.declared.netlist_data.NetlistData.{NetlistData}
use Rattle.place_plan.specs.declared.short.Short.{Short}
use Rattle.machine_image.specs.Vocabulary.{ImageValue, IsImage, IsFreeImage}
use Rattle.machine_image.specs.declared.kind.ImageKind.TheVariants.{Limit}
use Rattle.place_route.specs.RightImages.{IsRightImage}
use Rattle.place_repair.specs.{Plans.AreSeats, Plans.AreNets, Plans.HasRoom, Plans.IsShortPlan, Plans.Nets, declared.seats.Seats.Seats}
use Rattle.place_repair.specs.Repairs.{IsRepair, HasSameRows}
use Rattle.cmd_steps.specs.{Courses.Step, declared.refusal.Refusal.Refusal}
use Rattle.cmd_steps.specs.declared.refusal.Refusal.TheVariants as refused

-- ---- the image isn't too large

-- it has more closed crosspoints than one of its machine that is repaired may have: that is refused at place 0
abbrev pub HasTooMany : ImageValue → Refusal → Type 0
HasTooMany i (refused.Image line kind) = (line ≡ 0) × (kind ≡ Limit) × (most_repaired i.config.shape < set.len i.config.closed)
HasTooMany i refusal = ⊥

abbrev pub takes_few : ImageValue → Step (Unit {0})
takes_few i = record { stops = HasTooMany i; gives = λ _. set.len i.config.closed ≤ most_repaired i.config.shape }

-- ---- it is repaired

-- The new image follows the repair plan of the old one, closes nothing that no net needs, touches only what the list leaves free, and
-- under all faults that the list covers reads what the old one reads without faults. So what the old one is right for without faults,
-- the new one is right for then
pub record IsRepairOf (d : DefectList) (old new : ImageValue) : Type 0 where
  pub image : IsImage new
  pub repair : IsRepair d.list old new
  pub free : IsFreeImage d.list new
  pub rows : HasSameRows d.list old new
  pub right : (f none : Faults) (draft : NetlistData) → Covers d.shape d.list f → IsFaultless none → IsRightImage none old draft →
      IsRightImage f new draft

-- the repair plan of the image has room on the list
pub record HasPlanRoom (d : DefectList) (i : ImageValue) : Type 0 where
  pub seats : Seats
  pub nets : Nets
  pub seats_are : AreSeats d.list i seats
  pub nets_are : AreNets d.list i seats nets
  pub room : HasRoom i seats nets

-- or it is short of something
pub record LacksPlanRoom (d : DefectList) (i : ImageValue) : Type 0 where
  pub short : Short
  pub is_short : IsShortPlan d.list i short

-- it isn't repaired: the plan is short, and this is the first thing that it is short of; or memory is lacking
abbrev pub NotRepaired : DefectList → ImageValue → Refusal → Type 0
NotRepaired d i (refused.Room place) = (place.shape ≡ d.shape) × IsShortPlan d.list i place.short
NotRepaired d i refused.Memory = Unit {0}
NotRepaired d i refusal = ⊥

abbrev pub repairs : DefectList → ImageValue → Step ImageValue
repairs d i = record { stops = NotRepaired d i; gives = IsRepairOf d i }
