-- What is cited above.
pub mod BothLemmas
pub mod Certain
pub mod WhileAlone
-- For the proofs of this crate alone.
mod RowsOfBoth
mod Vocabulary
