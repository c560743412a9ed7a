-- What is cited above.
pub mod ListedLemmas
pub mod Following
pub mod Made
pub mod Texts
pub mod WrongWords
pub mod FewCycles
-- For the proofs of this crate alone.
mod MachineListed
mod Vocabulary
