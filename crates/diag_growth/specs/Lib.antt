-- Where a table is tested, and when its test passes: cited above.
pub mod Seats
-- What is closed in a test: for this crate's bodies.
pub mod Ties
-- What crates above cite: what tests of tables keep.
pub mod Tables
-- For this crate's bodies alone.
pub mod Seating
pub mod Choices
pub mod Partings
pub mod Grown
pub mod Looks
pub mod Rest
