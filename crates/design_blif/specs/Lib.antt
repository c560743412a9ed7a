-- Cited above: lines, models, and the design that a text is.
pub mod Heads
pub mod Names
pub mod Parts
pub mod Seen
pub mod Right
pub mod Grammar
pub mod Faults
pub mod Designs
-- Of this crate's bodies: what the reader holds, line after line.
pub mod Refusals
pub mod States
pub mod Steps
pub mod Runs
pub mod Texts
