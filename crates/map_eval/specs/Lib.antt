-- Networks that are run, vector by vector.

-- Cited above
pub mod Evals
-- For the bodies of this crate
pub mod Pins
pub mod Marks
pub mod Turns
pub mod States
pub mod Changes
pub mod Settling
pub mod Latching
pub mod Placing
pub mod Starting
pub mod Wires
pub mod Runnings
