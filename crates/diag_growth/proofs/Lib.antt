mod Tying
mod Seating
mod Tested
-- For the proofs of this crate alone.
mod Outsides
mod Placing
mod Searching
mod Choosing
mod Testing
mod Fresh
mod Parting
mod Growing
mod Stages
mod Looking
mod Leaving
mod Ending
mod Taken
mod Remaining
mod Listing
mod Circling
mod Learning
mod SoFar
-- What is cited above.
pub mod Decided
pub mod Explained
mod Vocabulary
