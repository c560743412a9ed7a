-- What is cited above.
pub mod Headlines
pub mod Promising
-- For the proofs of this crate alone.
mod Following
mod RunLaws
mod Vocabulary
