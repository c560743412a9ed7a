-- What is cited above.
pub mod Upward
pub mod Those
pub mod Counting
pub mod Transfer
pub mod PlanNets
pub mod Fitting
-- For the proofs of this crate alone.
mod Climbs
mod Places
mod Spreads
mod Sieves
mod Crossings
mod Moves
mod Trails
mod Stuck
mod Picked
mod Given
mod Shut
mod Asking
mod Tapping
mod Asks
mod Serving
mod Boards
mod VisitsMore
mod Lacks
mod Decided
mod Pushes
mod Grouping
mod AllTerminals
mod Choosing
mod Ranges
mod Determined
mod FewNets
mod Seated
mod Enough
mod Vocabulary
