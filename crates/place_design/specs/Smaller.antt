-- Networks with fewer tables than the plain one, on plans that fit.
use Rattle.std.specs.Prelude.{◌≡◌, ◌≤◌, length}
use Rattle.machine_defects.specs.Lists.{DefectList}
use Rattle.design_netlist.specs.declared.netlist_data.NetlistData.{NetlistData}
use Rattle.map_network.specs.declared.network.Network.{Network}
use Rattle.map_network.specs.Vocabulary.{AllLead, IsNetwork, IsNoDeeper, plain_network, HasRowsOf}
use Rattle.place_plan.specs.{declared.plan.Plan.Plan, Vocabulary.IsLayout, Vocabulary.Fits, Vocabulary.IsInOrder, Vocabulary.IsPlan}
use Rattle.place_anneal.specs.Crossings.{HasNoMore}
use Rattle.place_design.specs.{Laying.IsLean, declared.smaller.Improved.Improved, declared.smaller.Smaller.Smaller}

-- the network has the design's rows, inputs and outputs, and no more tables than its plain network
pub record IsFor (draft : NetlistData) (n : Network) : Type 0 where
  pub network : IsNetwork n
  pub rows : HasRowsOf n draft
  pub inputs : n.inputs ≡ length draft.inputs
  pub outputs : length n.outputs ≡ length draft.outputs
  pub tables : length n.tables ≤ length (plain_network draft).tables

-- besides, each table leads to an output, and it is no deeper
pub record IsLeanFor (draft : NetlistData) (n : Network) : Type 0 where
  pub is : IsFor draft n
  pub lead : AllLead n
  pub shallow : IsNoDeeper (plain_network draft) n

-- the plan of the network fits the list, and has no more crossings than its plan in order
pub record IsImproved (d : DefectList) (n : Network) (i : Improved) : Type 0 where
  pub plan : IsPlan d.shape d.list n i.placed.plan
  pub fits : Fits d.shape d.list n i.placed.plan
  pub layout : IsLayout d.shape d.list n i.placed.plan i.placed.layout
  pub first : Plan
  pub in_order : IsInOrder d.shape d.list n first
  pub crossings : HasNoMore d.shape n first i.placed.plan

-- so it is of a network that is for the design
pub record IsSmallerFor (d : DefectList) (draft : NetlistData) (s : Smaller) : Type 0 where
  pub is : IsFor draft s.network
  pub plan : IsPlan d.shape d.list s.network s.placed.plan
  pub fits : Fits d.shape d.list s.network s.placed.plan
  pub layout : IsLayout d.shape d.list s.network s.placed.plan s.placed.layout
  pub lean : IsLean d draft s.network s.placed.plan
