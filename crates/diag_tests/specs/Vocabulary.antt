-- What the crates above, and the proofs here, speak of.
pub use Rattle.diag_tests.specs.Routes.{Extends, HasEnd, IsRoute, Walk, at_pin, coded_walk, cross_numbers, other_end}
pub use Rattle.diag_tests.specs.Configs.{Closes, IsCellConfig, IsLoopConfig, cell_setting, is_laid}
