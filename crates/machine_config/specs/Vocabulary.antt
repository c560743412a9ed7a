-- What the crates above, and the proofs here, speak of.
pub use Rattle.machine_config.specs.Configuration.{CellsFit, Configuration, IsConfiguration, Roomy, cell_of, cleared, coded_configuration}
pub use Rattle.machine_config.specs.Configuration.{is_closed, setting_of, with_bit, with_cell, with_closed, with_init, with_open}
pub use Rattle.machine_config.specs.Configuration.{with_setting, with_ticks}
pub use Rattle.machine_config.specs.Run.{Cycle, Cycles, Runs, Ticks, after_edge, after_tick, at_load, cycle, edge_output, first_output}
pub use Rattle.machine_config.specs.Run.{none, number_of, pins_read, tick, tick_output, unticked}
unfoldable pub use Rattle.machine_config.specs.Run.{address_at}
pub use Rattle.machine_config.specs.Faulty.{IsRun, circuit_of, held_by, table_of, table_or_off}
pub use Rattle.machine_config.specs.Kept.{AreListed, AreMarked, IsKept, has_mark, once_if, set_of, times, times_on}
pub use Rattle.machine_config.specs.Route.{LeadsTo, ends, goes}
pub use Rattle.machine_config.specs.Groups.{AreClear, AreGroups, AreUnshorted, IsWithin, among, both}
pub use Rattle.machine_config.specs.Tests.{AreOff, AreReleased, IsCellTest, IsDrivenAlone, IsDrivenIn, IsLed, IsLoop, IsLoose}
pub use Rattle.machine_config.specs.Tests.{IsRegisterTest}
pub use Rattle.machine_config.specs.Distance.{OpensFarFrom}
