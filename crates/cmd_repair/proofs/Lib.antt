-- What is cited above.
pub mod Headlines
pub mod Promising
-- For the proofs of this crate alone.
mod RepairLaws
mod Counting
mod Vocabulary
