-- What is cited above.
pub mod Headlines
pub mod Promising
-- For the proofs of this crate alone.
mod Doubles
mod Laying
mod Reading
mod Ending
mod TwiceLaws
mod Vocabulary
