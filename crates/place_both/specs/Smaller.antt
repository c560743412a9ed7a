-- Networks for two designs, on plans of their joint network that fit.
use Rattle.machine_defects.specs.Lists.{DefectList}
use Rattle.design_netlist.specs.declared.netlist_data.NetlistData.{NetlistData}
use Rattle.map_network.specs.Vocabulary.{IsNetwork, IsPlainNetwork, HasRowsOf}
use Rattle.place_plan.specs.Vocabulary.{Fits, IsPlan}
use Rattle.place_pair.specs.JointNetworks.{joint_network}
use Rattle.place_design.specs.Smaller.{IsFor, IsLeanFor}
use Rattle.place_both.specs.{Both.AreLean, Both.CanBeNumbered, declared.networks.TwoNetworks.TwoNetworks, declared.smaller.Smaller.Smaller}

-- each network is for its design, and both can be numbered together
pub record AreFor (first second : NetlistData) (networks : TwoNetworks) : Type 0 where
  pub first_for : IsFor first networks.first
  pub second_for : IsFor second networks.second
  pub few : CanBeNumbered networks.first networks.second

-- besides, nothing of either is in vain
pub record AreLeanFor (first second : NetlistData) (networks : TwoNetworks) : Type 0 where
  pub first_for : IsLeanFor first networks.first
  pub second_for : IsLeanFor second networks.second
  pub few : CanBeNumbered networks.first networks.second

-- they are the designs' plain networks
pub record ArePlainFor (first second : NetlistData) (networks : TwoNetworks) : Type 0 where
  pub first_plain : IsPlainNetwork first networks.first
  pub second_plain : IsPlainNetwork second networks.second
  pub first_is : IsNetwork networks.first
  pub second_is : IsNetwork networks.second
  pub first_rows : HasRowsOf networks.first first
  pub second_rows : HasRowsOf networks.second second
  pub few : CanBeNumbered networks.first networks.second

-- the plan of their joint network fits the list, and has no more crossings than that in order
pub record AreSmallerFor (d : DefectList) (first second : NetlistData) (s : Smaller) : Type 0 where
  pub are : AreLeanFor first second s.networks
  pub plan : IsPlan d.shape d.list (joint_network s.networks.first s.networks.second) s.placed.plan
  pub fits : Fits d.shape d.list (joint_network s.networks.first s.networks.second) s.placed.plan
  pub lean : AreLean d first second s.networks.first s.networks.second s.placed.plan
