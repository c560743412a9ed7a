-- What is cited above.
pub mod Places
pub mod Getting
pub mod Rising
pub mod Later
pub mod Apart
pub mod Grounding
pub mod Stood
pub mod Counting
mod Crosswise
mod Linking
pub mod Taking
pub mod Besides
pub mod Passing
pub mod Adding
pub mod Hung
pub mod Marking
pub mod Losing
pub mod Settling
pub mod Offering
pub mod Seconds
-- For the proofs of this crate alone.
mod Ranking
mod Once
mod TwoWays
mod Reaching
mod Touring
mod Vocabulary
