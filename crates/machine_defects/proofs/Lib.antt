-- What is cited above.
pub mod Marks
pub mod Only
-- For the proofs of this crate alone.
mod Counting
mod Telling
mod Queries
mod Sweeping
mod SweptRows
mod SitesInRows
mod Owning
mod Putting
mod PuttingWires
mod Nothing
mod Splits
mod Rows
mod Plain
mod Numerals
mod Forms
mod Entries
mod Reading
mod Writing
mod Vocabulary
