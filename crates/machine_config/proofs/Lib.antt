-- What is cited above.
pub mod Marks
pub mod Members
pub mod Changes
pub mod Runs
pub mod Toggles
pub mod Readings
pub mod Grouped
pub mod Parts
pub mod Passing
pub mod Loops
pub mod Cells
pub mod FirstReadings
pub mod Distance
-- For the proofs of this crate alone.
mod Finite
mod Registers
mod Vocabulary
