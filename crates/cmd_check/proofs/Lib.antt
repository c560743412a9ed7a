-- What is cited above.
pub mod Headlines
pub mod Promising
-- For the proofs of this crate alone.
mod CheckLaws
mod Following
mod Counting
mod Settling
mod Vocabulary
