-- Two designs side by side on what a list of defects leaves free.
use Rattle.std.specs.Prelude.{◌≡◌, ◌⊎◌, ◌+◌, ◌<◌, ◌≤◌, Bool, List, [], ◌∷◌, ◌++◌, map, length, take, drop}
use Rattle.machine_meaning.specs.Vocabulary.{Covers, Faults}
use Rattle.machine_defects.specs.Lists.{DefectList}
use Rattle.design_netlist.specs.{declared.netlist_data.NetlistData.NetlistData, Rows.AreRows}
use Rattle.map_network.specs.declared.network.Network.{Network}
use Rattle.map_network.specs.Vocabulary.{AllLead, HasRowsOf, IsNetwork, IsNoDeeper, IsPlainNetwork, plain_network}
use Rattle.place_anneal.specs.Crossings.{HasNoMore}
use Rattle.place_plan.specs.{declared.plan.Plan.Plan, declared.short.Short.Short, Plans.FitsInOrder, Plans.IsInOrder, Plans.IsShortInOrder}
use Rattle.machine_image.specs.Vocabulary.{ImageValue, IsImage, IsFreeImage}
use Rattle.place_route.specs.Vocabulary.{IsRightImage, ReadsRows, IsRoutedFor}
use Rattle.place_pair.specs.{JointNetworks.joint_network, Tenants.AreTenants, Tenants.HaveRoom, Tenants.StandApart}
use Rattle.cmd_steps.specs.{Vocabulary.Step, Vocabulary.ShortPlace, declared.refusal.Refusal.Refusal}
use Rattle.cmd_steps.specs.declared.refusal.Refusal.TheVariants as refused

-- ---- rows

-- each row of the one, and then the other's behind it
abbrev pub side_by_side : List (List Bool) → List (List Bool) → List (List Bool)
side_by_side [] others = []
side_by_side (row ∷ rows) [] = []
side_by_side (row ∷ rows) (other ∷ others) = (row ++ other) ∷ side_by_side rows others

-- The first bits of each vector are the first design's, as many as it has inputs, and those behind them the second's. Each row is
-- the first design's and then the second's
pub record AreBothRows (first second : NetlistData) (vectors rows : List (List Bool)) : Type 0 where
  pub first_rows : List (List Bool)
  pub second_rows : List (List Bool)
  pub are_first : AreRows first (map (take (length first.inputs)) vectors) first_rows
  pub are_second : AreRows second (map (drop (length first.inputs)) vectors) second_rows
  pub rows_are : rows ≡ side_by_side first_rows second_rows

-- ---- room

-- the inputs of two networks can be numbered together, and so can their tables
abbrev pub CanBeNumbered : Network → Network → Type 0
CanBeNumbered n o = (n.inputs + o.inputs < 4294967296) × (length n.tables + length o.tables < 4294967296)

-- the joint network of the plain networks of the two designs
abbrev pub joint_of : NetlistData → NetlistData → Network
joint_of first second = joint_network (plain_network first) (plain_network second)

-- its in-order plan fits the list
abbrev pub BothHaveRoom : DefectList → NetlistData → NetlistData → Type 0
BothHaveRoom d first second = HaveRoom d.shape d.list (plain_network first) (plain_network second)

-- or it is short of something
abbrev pub BothLackRoom : DefectList → NetlistData → NetlistData → Type 0
BothLackRoom d first second = (short : Short) × IsShortInOrder d.shape d.list (joint_of first second) short

-- and this is the first thing that it is short of
pub record IsNoRoomForBoth (d : DefectList) (first second : NetlistData) (place : ShortPlace) : Type 0 where
  pub shape : place.shape ≡ d.shape
  pub short : IsShortInOrder d.shape d.list (joint_of first second) place.short

-- ---- the image of both

-- they are the plain networks of the designs, and this is the plan in order of their joint network, which fits
pub record ArePlainInOrder (d : DefectList) (first second : NetlistData) (one other : Network) (p : Plan) : Type 0 where
  pub first_plain : IsPlainNetwork first one
  pub second_plain : IsPlainNetwork second other
  pub fits : FitsInOrder d.shape d.list (joint_network one other) p

-- Each table of either leads to an output, and in neither is a path of tables longer than in the design's plain network. Nets cross
-- at most as many nodes in sum as by the plan in order of their joint network
pub record AreLean (d : DefectList) (first second : NetlistData) (one other : Network) (p : Plan) : Type 0 where
  pub first_lead : AllLead one
  pub second_lead : AllLead other
  pub first_shallow : IsNoDeeper (plain_network first) one
  pub second_shallow : IsNoDeeper (plain_network second) other
  pub before : Plan
  pub in_order : IsInOrder d.shape d.list (joint_network one other) before
  pub crossings : HasNoMore d.shape (joint_network one other) before p

-- The image is routed for the joint network of the designs' plain networks on its plan in order, or for that of networks with the
-- same rows and no more tables of which nothing is in vain
pub record IsRoutedForBoth (d : DefectList) (first second : NetlistData) (i : ImageValue) : Type 0 where
  pub one : Network
  pub other : Network
  pub plan : Plan
  pub one_is : IsNetwork one
  pub other_is : IsNetwork other
  pub first_rows : HasRowsOf one first
  pub second_rows : HasRowsOf other second
  pub first_no_more : length one.tables ≤ length (plain_network first).tables
  pub second_no_more : length other.tables ≤ length (plain_network second).tables
  pub choice : ArePlainInOrder d first second one other plan ⊎ AreLean d first second one other plan
  pub routed : IsRoutedFor d.shape d.list (joint_network one other) plan i

-- The image is of the machine, has a pin for each input and output of the first design and then of the second, touches only what
-- the list leaves free, closes and switches on nothing idle, and reads the rows of both under all faults that the list covers. What of
-- it is each design's uses no wire of the other's, runs as it does alone, and is right for that design
pub record IsImageForBoth (d : DefectList) (first second : NetlistData) (i : ImageValue) : Type 0 where
  pub image : IsImage i
  pub shape : i.config.shape ≡ d.shape
  pub inputs : length i.inputs ≡ length first.inputs + length second.inputs
  pub outputs : length i.outputs ≡ length first.outputs + length second.outputs
  pub free : IsFreeImage d.list i
  pub routed : IsRoutedForBoth d first second i
  pub right : (f : Faults) → Covers d.shape d.list f → ReadsRows f i (AreBothRows first second)
  pub first_image : ImageValue
  pub second_image : ImageValue
  pub first_is : IsImage first_image
  pub second_is : IsImage second_image
  pub first_inputs : length first_image.inputs ≡ length first.inputs
  pub first_outputs : length first_image.outputs ≡ length first.outputs
  pub second_inputs : length second_image.inputs ≡ length second.inputs
  pub second_outputs : length second_image.outputs ≡ length second.outputs
  pub tenants : AreTenants i first_image second_image
  pub apart : (f : Faults) → Covers d.shape d.list f → StandApart f i first_image second_image
  pub first_right : (f : Faults) → Covers d.shape d.list f → IsRightImage f first_image first
  pub second_right : (f : Faults) → Covers d.shape d.list f → IsRightImage f second_image second

abbrev pub NotBothLaid : DefectList → NetlistData → NetlistData → Refusal → Type 0
NotBothLaid d first second (refused.Room place) = IsNoRoomForBoth d first second place
NotBothLaid d first second refused.Memory = Unit {0}
NotBothLaid d first second refusal = ⊥

abbrev pub lays_both : DefectList → NetlistData → NetlistData → Step ImageValue
lays_both d first second = record {
  stops = NotBothLaid d first second;
  gives = λ i. IsImageForBoth d first second i × BothHaveRoom d first second;
}
