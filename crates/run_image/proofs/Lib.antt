-- What is cited above.
pub mod Copied
pub mod Driving
pub mod CourseLemmas
pub mod Bodies
pub mod Scripts
pub mod Ends
pub mod Headlines
pub mod WrongWords
-- For the proofs of this crate alone.
mod Vectors
mod BatchLemmas
mod Together
mod ImageLemmas
mod RowLemmas
mod CycleLemmas
mod Following
mod Vocabulary
