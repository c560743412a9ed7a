-- What the proofs here cite of the layers below, and of the specs.
pub use Rattle.std.proofs.Common.{Err, IfErr, IfOk, Ok, Result, [], ap, inl, inr, length, refl, subst, sym, ◌<◌, ◌∙◌, ◌≡◌, ◌⊎◌}
pub use Rattle.machine_shape.specs.declared.Shape.{Shape}
pub use Rattle.machine_meaning.specs.Vocabulary.{Defects}
pub use Rattle.machine_defects.specs.Vocabulary.{DefectList}
pub use Rattle.design_netlist.specs.declared.netlist_data.NetlistData.{NetlistData}
pub use Rattle.map_network.specs.declared.network.Network.{Network}
pub use Rattle.map_network.specs.Vocabulary.{IsPlainNetwork, source_of}
unfoldable pub use Rattle.map_network.specs.Vocabulary.{plain_network}
pub use Rattle.place_plan.specs.declared.plan.Plan.{Plan}
pub use Rattle.place_plan.specs.declared.short.Short.{Short}
pub use Rattle.place_plan.specs.Vocabulary.{Fits, FitsInOrder, InOrderIsShort, IsInOrder, IsShortInOrder}
pub use Rattle.place_anneal.specs.Better.{IsBetterLaid}
pub use Rattle.place_design.specs.Laying.{HasRoom, IsNoRoom, LacksRoom, NotLaid, lays}
pub use Rattle.place_design.specs.Smaller.{IsFor, IsImproved, IsLeanFor}
