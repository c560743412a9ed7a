-- What is cited above.
pub mod Counted
pub mod Driven
pub mod FreeWires
pub mod Keyed
pub mod Touching
-- For the proofs of this crate alone.
mod Bytes
mod Wrong
mod Passing
mod Growing
mod Steps
mod Heads
mod Whole
mod Faultless
mod Ends
mod Written
mod Alike
mod Vocabulary
