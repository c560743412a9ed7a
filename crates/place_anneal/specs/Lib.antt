-- Better plans.

-- Cited above: how often nets cross nodes, and when a plan is better
pub mod Crossings
pub mod Better
-- For the bodies of this crate
pub mod Seats
