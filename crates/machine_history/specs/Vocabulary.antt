-- What the crates above, and the proofs here, speak of.
pub use Rattle.machine_history.specs.Histories.{CycleOver, CyclesOver, History, IsConstant, IsHistoryOf, IsRunOver, TicksOver, cycle_over}
pub use Rattle.machine_history.specs.Histories.{none_over, settled, settled_output, tick_over, unticked_over}
pub use Rattle.machine_history.specs.Tenants.{AreAmong, IsDriveFor, IsTenantOf, LeavesAlone, LeavesAloneFor, drive_alone}
