-- What is cited above.
pub mod Lonely
pub mod Sounding
-- For the proofs of this crate alone.
mod Limits
mod Lists
mod Moving
mod Standing
mod Behaving
mod Owning
mod Keeping
mod Letting
mod Halving
mod Seating
mod Cutting
mod Sharing
mod Vocabulary
