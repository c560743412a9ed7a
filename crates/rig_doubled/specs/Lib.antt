-- Rigs that compare readings.
pub mod Repeats
pub mod Twins
