-- Cited above: what a vector file says, what reading it comes to, and the line of a row.
pub mod Vectors
pub mod Readings
pub mod Rows
-- Of this crate's bodies: a line of which some bytes were read, and how far a reading came.
pub mod Lines
pub mod Inside
pub mod Steps
pub mod Kept
