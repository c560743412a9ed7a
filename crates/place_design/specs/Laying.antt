-- A design is laid on what a list of defects leaves free.
use Rattle.std.specs.Prelude.{◌≡◌, ◌≤◌, ◌⊎◌, true, false, length}
use Rattle.machine_shape.specs.Limits.{is_small}
use Rattle.machine_meaning.specs.Vocabulary.{Covers, Faults}
use Rattle.machine_defects.specs.Lists.{DefectList}
use Rattle.design_netlist.specs.declared.netlist_data.NetlistData.{NetlistData}
use Rattle.map_network.specs.declared.network.Network.{Network}
use Rattle.map_network.specs.Vocabulary.{AllLead, IsNetwork, IsNoDeeper, IsPlainNetwork, plain_network, HasRowsOf}
use Rattle.place_plan.specs.declared.plan.Plan.{Plan}
use Rattle.place_plan.specs.{declared.short.Short.Short, Plans.Fits, Plans.FitsInOrder, Plans.IsInOrder, Plans.IsShortInOrder}
use Rattle.place_anneal.specs.Crossings.{HasNoMore}
use Rattle.machine_image.specs.Vocabulary.{ImageValue, IsImage, IsFreeImage}
use Rattle.place_route.specs.Vocabulary.{IsRightImage, IsRoutedFor}
use Rattle.cmd_steps.specs.{Vocabulary.Step, Vocabulary.ShortPlace, declared.refusal.Refusal.Refusal}
use Rattle.cmd_steps.specs.declared.refusal.Refusal.TheVariants as refused

-- the in-order plan of the design's plain network fits the list
pub record HasRoom (d : DefectList) (draft : NetlistData) : Type 0 where
  pub network : Network
  pub plan : Plan
  pub plain : IsPlainNetwork draft network
  pub fits : FitsInOrder d.shape d.list network plan

-- or it is short of something
pub record LacksRoom (d : DefectList) (draft : NetlistData) : Type 0 where
  pub network : Network
  pub short : Short
  pub plain : IsPlainNetwork draft network
  pub is_short : IsShortInOrder d.shape d.list network short

-- and this is the first thing that it is short of
pub record IsNoRoom (d : DefectList) (draft : NetlistData) (place : ShortPlace) : Type 0 where
  pub network : Network
  pub plain : IsPlainNetwork draft network
  pub shape : place.shape ≡ d.shape
  pub short : IsShortInOrder d.shape d.list network place.short

-- it is the design's plain network, on its plan in order
pub record IsPlainInOrder (d : DefectList) (draft : NetlistData) (n : Network) (p : Plan) : Type 0 where
  pub plain : IsPlainNetwork draft n
  pub fits : FitsInOrder d.shape d.list n p

-- Each table leads to an output, and no path of tables is longer than those of the design's plain network. Nets cross at most as
-- many nodes in sum as by the network's plan in order
pub record IsLean (d : DefectList) (draft : NetlistData) (n : Network) (p : Plan) : Type 0 where
  pub lead : AllLead n
  pub shallow : IsNoDeeper (plain_network draft) n
  pub first : Plan
  pub in_order : IsInOrder d.shape d.list n first
  pub crossings : HasNoMore d.shape n first p

-- It is the design's plain network on a machine that isn't small, and nets cross at most as many nodes in sum as by its plan in
-- order
pub record IsPlainFound (d : DefectList) (draft : NetlistData) (n : Network) (p : Plan) : Type 0 where
  pub large : is_small d.shape.counts ≡ false
  pub plain : IsPlainNetwork draft n
  pub first : Plan
  pub in_order : IsInOrder d.shape d.list n first
  pub crossings : HasNoMore d.shape n first p

-- what may be laid
abbrev pub IsChosen : DefectList → NetlistData → Network → Plan → Type 0
IsChosen d draft n p = IsPlainInOrder d draft n p ⊎ (IsLean d draft n p ⊎ IsPlainFound d draft n p)

-- The image is routed for the design's plain network on its plan in order, or for a network with the same rows and no more tables
-- of which nothing is in vain; on a machine that isn't small also for the plain network on another plan. The plan fits
pub record IsRoutedDesign (d : DefectList) (draft : NetlistData) (i : ImageValue) : Type 0 where
  pub network : Network
  pub plan : Plan
  pub is_network : IsNetwork network
  pub rows : HasRowsOf network draft
  pub no_more : length network.tables ≤ length (plain_network draft).tables
  pub fits : Fits d.shape d.list network plan
  pub choice : IsChosen d draft network plan
  pub routed : IsRoutedFor d.shape d.list network plan i

-- The image is of the machine, has a pin for each input and output of the design, touches only what the list leaves free, closes
-- and switches on nothing idle, and is right for the design under all faults that the list covers
pub record IsImageFor (d : DefectList) (draft : NetlistData) (i : ImageValue) : Type 0 where
  pub image : IsImage i
  pub shape : i.config.shape ≡ d.shape
  pub inputs : length i.inputs ≡ length draft.inputs
  pub outputs : length i.outputs ≡ length draft.outputs
  pub free : IsFreeImage d.list i
  pub routed : IsRoutedDesign d draft i
  pub right : (f : Faults) → Covers d.shape d.list f → IsRightImage f i draft

abbrev pub NotLaid : DefectList → NetlistData → Refusal → Type 0
NotLaid d draft (refused.Room place) = IsNoRoom d draft place
NotLaid d draft refused.Memory = Unit {0}
NotLaid d draft refusal = ⊥

-- on a small machine the plan in order alone decides
abbrev pub HasRoomIfSmall : DefectList → NetlistData → Type 0
HasRoomIfSmall d draft = is_small d.shape.counts ≡ true → HasRoom d draft

abbrev pub lays : DefectList → NetlistData → Step ImageValue
lays d draft = record { stops = NotLaid d draft; gives = λ i. IsImageFor d draft i × HasRoomIfSmall d draft }
