-- What is cited above.
pub mod Driving
pub mod Images
pub mod Leaving
pub mod Lasting
pub mod RowsOver
pub mod Sharing
-- For the proofs of this crate alone.
mod Unique
mod Existing
mod Constant
mod Reaching
mod Instants
mod Within
mod Vocabulary
