-- What is cited above.
pub mod NumbersLemmas
pub mod SetsLemmas
-- For the proofs of this crate alone.
mod WordsLemmas
