-- What the crates above, and the proofs here, speak of.
pub use Rattle.machine_meaning.specs.Faults.{AreFaultsOf, Faults, IsFaultless, is_bridge, pair_cmp, stuck_cross, stuck_register, stuck_wire}
pub use Rattle.machine_meaning.specs.Faults.{wrong_cell}
pub use Rattle.machine_meaning.specs.Joined.{IsWalk, Joined, JoinedByList, Linked, Net, Shorted, bridged, crossed, here, net_of, plain_net}
pub use Rattle.machine_meaning.specs.Joined.{then}
pub use Rattle.machine_meaning.specs.Circuit.{Circuit, Outputs, Pins, Table}
pub use Rattle.machine_meaning.specs.Value.{AreValues, IsFinite, IsHeld, IsPulled, IsValue, Pulls, by_pin, by_table, held_0, held_1, pulled}
pub use Rattle.machine_meaning.specs.Value.{released}
pub use Rattle.machine_meaning.specs.Sound.{HasTwo, IsServed, IsSoundCross, IsSoundTable, IsSoundWire, IsWholeLine}
pub use Rattle.machine_meaning.specs.Defects.{AreDefectsOf, Covers, Defects, IsClear, IsFair, IsFreeCross, IsFreeTable, IsFreeWire, IsOfUse}
pub use Rattle.machine_meaning.specs.Defects.{IsOpenLine}
pub use Rattle.machine_meaning.specs.Served.{HasServed, IsEmptyOf}
pub use Rattle.machine_meaning.specs.Standing.{HasStandingParts, IsOutside, IsSeated, IsSoundCrossOf, IsStanding, Meets, StandsBy}
pub use Rattle.machine_meaning.specs.Standing.{StandsWithout, on_two, pin_stands}
pub use Rattle.machine_meaning.specs.Tight.{CouldStand, HasFeet, HasFreeFeet, HasOneFree, IsAlone, IsFreeCrossOf, IsFreeWireOf, IsLeast}
pub use Rattle.machine_meaning.specs.Tight.{IsRightTable, IsTakenOff, IsTight, as_pin, on_feet, two}
