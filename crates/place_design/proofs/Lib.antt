-- What is cited above.
pub mod PlainWidths
pub mod Rooms
pub mod Fewer
-- For the proofs of this crate alone.
mod LayLemmas
mod Vocabulary
