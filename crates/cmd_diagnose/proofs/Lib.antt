-- What is cited above.
pub mod DiagnoseLaws
pub mod Headlines
pub mod Promising
-- For the proofs of this crate alone.
mod Following
mod Vocabulary
