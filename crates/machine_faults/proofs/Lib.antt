-- What is cited above.
pub mod Keeping
-- For the proofs of this crate alone.
mod Adding
mod Lengths
mod Names
mod Parts
mod Reading
mod Words
mod Writing
mod Vocabulary
