-- What the proofs here cite of the layers below, and of the specs.
pub use Rattle.std.proofs.Common.{IfOk, arith, length, subst, ℕ, ◌+◌, ◌<◌, ◌≡◌, ◌≤◌}
pub use Rattle.std.specs.List.{All, AllByRecursion}
pub use Rattle.machine_meaning.specs.Vocabulary.{Covers, Defects, Faults, IsTight, Pins}
pub use Rattle.machine_defects.specs.Vocabulary.{DefectList}
pub use Rattle.design_netlist.specs.declared.netlist_data.NetlistData.{NetlistData}
pub use Rattle.design_netlist.specs.Vocabulary.{AreRows, IsChecked}
pub use Rattle.map_network.specs.declared.network.Network.{Network}
pub use Rattle.place_route.specs.Vocabulary.{IsRightImage, ReadsRows}
pub use Rattle.place_pair.specs.JointNetworks.{joint_network, part}
pub use Rattle.place_pair.specs.Tenants.{AreTenants, HasPinsOf, RunsAsAloneOver, StandApart}
pub use Rattle.place_design.specs.Smaller.{IsImproved, IsLeanFor}
pub use Rattle.place_design.proofs.Fewer.{of_some, plain-for}
pub use Rattle.place_both.specs.Both.{AreBothRows, IsImageForBoth, IsNoRoomForBoth, joint_of, side_by_side}
