-- What is cited above.
pub mod Terminals
pub mod OnTree
pub mod Routed
pub mod Ported
pub mod Drawn
pub mod Joining
pub mod Whole
pub mod Making
pub mod Reading
pub mod Needed
-- For the proofs of this crate alone.
mod PinValues
mod Turns
mod Marking
mod Limits
mod Lining
mod Seats
mod Deep
mod Vocabulary
