pub mod NumberLemmas
-- What is cited above.
pub mod WrittenLemmas
pub mod LinesLemmas
-- For the proofs of this crate alone.
mod BytesLemmas
mod Vocabulary
