-- Cited above: an evaluation and its steps.
pub mod Evals
-- Of this crate's bodies: what is kept of a design, and how it is brought up to date.
pub mod Bits
pub mod Tables
pub mod Turns
pub mod Smalls
pub mod Readers
pub mod Marks
pub mod Latches
pub mod Plans
pub mod Lanes
pub mod Blocks
